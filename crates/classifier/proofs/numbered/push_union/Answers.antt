use Rattle.std.proofs.Common.{List, ◌<◌, ◌||◌, false, ◌≡◌, ◌∙◌, ◌++◌, ◌∷◌, [], Some, ap, sym, subst}
use Rattle.std.proofs.lemmas.Option.{get_or_from_slice_get, slice_get_within}
use Rattle.net_types.specs.Cubes.{everything}
use Rattle.classifier.specs.declared.line.Line.{Line}
use Rattle.classifier.specs.Items.{Item, add_all}
use Rattle.classifier.specs.Lines.{add_line, line}
use Rattle.classifier.specs.Numbered.{AreNumbered, list_at}
use Rattle.classifier.specs.Seen.{is_there}
use Rattle.classifier.proofs.NumberLemmas.{numbered_kept, numbered_push}
use Rattle.classifier.proofs.SeenLemmas.{hidden, reached}
use Rattle.classifier.proofs.numbered.push_union.Goals as goal

pub index-requires : goal.index-requires
index-requires c =
    let both = add_all (list_at c.args.joins.now.firsts.now c.args.first) (list_at c.args.joins.now.seconds.now c.args.second) in
    let within = slice_get_within c.number_of.new.self.table.lists.items c.in_ok-number.number both c.in_ok-number.ensures.number in
    subst (λ n. c.in_ok-number.number < n) (sym c.number_of.new.self.table.lists.ok.0) within

pub returns-in_ok-push-clause-lines : goal.returns-in_ok-push-clause-lines
returns-in_ok-push-clause-lines c =
    let both = add_all (list_at c.args.joins.now.firsts.now c.args.first) (list_at c.args.joins.now.seconds.now c.args.second) in
    let same : c.in_ok-results.results ≡ both =
    c.in_ok-results.ensures ∙ c.index.ensures ∙ get_or_from_slice_get c.number_of.new.self.table.lists.items c.in_ok-number.number both c.index.result.now c.in_ok-number.ensures.number
    in
    c.in_ok-push_reached.ensures.lines ∙ ap (λ (xs : List Item). add_line c.args.lines.now.items (line xs c.args.cube)) same

pub returns-in_ok-push-clause-numbered : goal.returns-in_ok-push-clause-numbered
returns-in_ok-push-clause-numbered c =
    let lists = c.number_of.new.self.table.lists.items in
    let kept = c.args.lines.now.items in
    let both = add_all (list_at c.args.joins.now.firsts.now c.args.first) (list_at c.args.joins.now.seconds.now c.args.second) in
    let same : c.in_ok-results.results ≡ both =
    c.in_ok-results.ensures ∙ c.index.ensures ∙ get_or_from_slice_get lists c.in_ok-number.number both c.index.result.now c.in_ok-number.ensures.number
    in
    let next : Line = line c.in_ok-results.results c.args.cube in
    let shown : (is_there kept c.args.cube || is_there kept everything) ≡ false =
    subst (λ xs. (is_there xs c.args.cube || is_there xs everything) ≡ false) c.deref.ensures.value (sym c.is_hidden.ensures ∙ c.if-not-is_hidden.true)
    in
    let lines : c.push_reached.new.lines.items ≡ kept ++ next ∷ [] = c.in_ok-push_reached.ensures.lines ∙ sym (reached kept next shown) in
    subst (λ xs. AreNumbered lists xs c.push.new.self.items) (sym lines)
    (subst (AreNumbered lists (kept ++ next ∷ [])) (sym c.in_ok-push.ensures.items)
    (numbered_push lists kept c.args.numbers.now.items next c.in_ok-number.number
    (numbered_kept c.args.joins.now.table.lists.items lists kept c.args.numbers.now.items c.in_ok-number.ensures.kept c.requires.numbered) (c.in_ok-number.ensures.number ∙ ap Some (sym same))))

pub returns-else-not-is_hidden-clause-lines : goal.returns-else-not-is_hidden-clause-lines
returns-else-not-is_hidden-clause-lines c =
    let both = add_all (list_at c.args.joins.now.firsts.now c.args.first) (list_at c.args.joins.now.seconds.now c.args.second) in
    hidden c.args.lines.now.items c.deref.result.now (line both c.args.cube) c.deref.ensures.value (sym c.is_hidden.ensures ∙ c.if-not-is_hidden.false)
