use Rattle.std.proofs.Common.{List, ◌<◌, ◌≡◌, ◌∙◌, ◌++◌, ◌∷◌, [], Some, ap, sym, subst}
use Rattle.std.proofs.lemmas.Option.{get_or_from_slice_get, slice_get_within}
use Rattle.classifier.specs.declared.line.Line.{Line}
use Rattle.classifier.specs.Items.{Item, add_all}
use Rattle.classifier.specs.Lines.{line}
use Rattle.classifier.specs.Numbered.{AreNumbered, list_at}
use Rattle.classifier.proofs.NumberLemmas.{numbered_kept, numbered_push}
use Rattle.classifier.proofs.numbered.push_joined.Goals as goal

pub index-requires : goal.index-requires
index-requires c =
    let both = add_all (list_at c.args.joins.now.firsts.now c.args.first) (list_at c.args.joins.now.seconds.now c.args.second) in
    let within = slice_get_within c.number_of.new.self.table.lists.items c.in_ok-number.number both c.in_ok-number.ensures.number in
    subst (λ n. c.in_ok-number.number < n) (sym c.number_of.new.self.table.lists.ok.0) within

pub returns-clause-lines : goal.returns-clause-lines
returns-clause-lines c =
    let both = add_all (list_at c.args.joins.now.firsts.now c.args.first) (list_at c.args.joins.now.seconds.now c.args.second) in
    let read : c.in_ok-results.results ≡ both =
    c.in_ok-results.ensures ∙ c.index.ensures ∙ get_or_from_slice_get c.number_of.new.self.table.lists.items c.in_ok-number.number both c.index.result.now c.in_ok-number.ensures.number
    in
    c.in_ok-push.ensures.items ∙ ap (λ (xs : List Item). c.args.lines.now.items ++ line xs c.args.cube ∷ []) read

pub returns-clause-numbered : goal.returns-clause-numbered
returns-clause-numbered c =
    let both = add_all (list_at c.args.joins.now.firsts.now c.args.first) (list_at c.args.joins.now.seconds.now c.args.second) in
    let read : c.in_ok-results.results ≡ both =
    c.in_ok-results.ensures ∙ c.index.ensures ∙ get_or_from_slice_get c.number_of.new.self.table.lists.items c.in_ok-number.number both c.index.result.now c.in_ok-number.ensures.number
    in
    let lists = c.number_of.new.self.table.lists.items in
    let kept = c.args.lines.now.items in
    let next : Line = line c.in_ok-results.results c.args.cube in
    subst (λ xs. AreNumbered lists xs c.push-2.new.self.items) (sym c.in_ok-push.ensures.items)
    (subst (AreNumbered lists (kept ++ next ∷ [])) (sym c.in_ok-push-2.ensures.items)
    (numbered_push lists kept c.args.numbers.now.items next c.in_ok-number.number
    (numbered_kept c.args.joins.now.table.lists.items lists kept c.args.numbers.now.items c.in_ok-number.ensures.kept c.requires.numbered) (c.in_ok-number.ensures.number ∙ ap Some (sym read))))
