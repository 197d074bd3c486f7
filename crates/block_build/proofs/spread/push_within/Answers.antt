-- The rules within one more of the sender's rules.
use Rattle.std.proofs.Common.{◌∷◌, [], arith, List, length, refl, ap, sym, ◌∙◌, subst}
use Rattle.std.proofs.lemmas.Bool.{eqb-true}
use Rattle.std.proofs.lemmas.List.{nil_from_length}
use Rattle.classifier.specs.Lines.{line}
use Rattle.classifier.specs.declared.line.Line.{Line}
use Rattle.block_build.proofs.BoundLemmas.{grown_alone, grown_last, grown_only, grown_wide, reached_for}
use Rattle.block_build.specs.Bounds.{IsAdded, IsSome}
use Rattle.block_build.specs.Offers.{has_one_left}
use Rattle.block_build.specs.Spreads.{spread}
use Rattle.block_build.proofs.spread.push_within.Goals as goal

pub returns-in_default-clause-grown : goal.returns-in_default-clause-grown
returns-in_default-clause-grown c =
    let x = c.args.x.now in
    let offers = c.args.offers.now in
    let front = c.reached-front.result.now in
    let left_is = c.has_one_left-left.ensures ∙ ap (has_one_left offers) c.items.ensures in
    grown_alone c.args.limit c.args.best offers x c.args.lines.now.items c.args.receivers.now front
    (reached_for c.args.best offers x c.args.receivers.now front c.has_one_left-left.result c.items-2.result.now c.items-2.ensures left_is c.reached-front.ensures)
    c.push_dropped.new.lines.items (nil_from_length front c.in_default.ensures.cases) c.in_ok-push_dropped.ensures.lines

pub returns-then-len-limit-clause-grown : goal.returns-then-len-limit-clause-grown
returns-then-len-limit-clause-grown c =
    let x = c.args.x.now in
    let offers = c.args.offers.now in
    let front = c.reached-front.result.now in
    let left_is = c.has_one_left-left.ensures ∙ ap (has_one_left offers) c.items.ensures in
    let made : List Line = c.in_ok-within_x.within_x.items in
    grown_wide c.args.limit c.args.best offers x c.args.lines.now.items c.args.receivers.now front
    (reached_for c.args.best offers x c.args.receivers.now front c.has_one_left-left.result c.items-2.result.now c.items-2.ensures left_is c.reached-front.ensures)
    c.in-Some.others.now c.in-Some.last.now c.in-Some.ensures.cases.0 made
    (subst (λ b. IsSome c.args.limit (spread b c.args.best c.args.x.now.results (line [] c.args.x.now.cube ∷ []) c.in-Some.others.now) c.in-Some.others.now (c.args.x.now ∷ []) c.in_ok-within_x.within_x.items) left_is c.in_ok-within_x.ensures)
    made refl (omega (arith, c.len.ensures, c.in_ok-within_x.within_x.ok, c.if-len-limit.true))

pub returns-then-is_empty-clause-grown : goal.returns-then-is_empty-clause-grown
returns-then-is_empty-clause-grown c =
    let x = c.args.x.now in
    let offers = c.args.offers.now in
    let front = c.reached-front.result.now in
    let left_is = c.has_one_left-left.ensures ∙ ap (has_one_left offers) c.items.ensures in
    let others = c.in-Some.others.now in
    grown_only c.args.limit c.args.best offers x c.args.lines.now.items c.args.receivers.now front
    (reached_for c.args.best offers x c.args.receivers.now front c.has_one_left-left.result c.items-2.result.now c.items-2.ensures left_is c.reached-front.ensures)
    others c.in-Some.last.now c.in-Some.ensures.cases.0 (nil_from_length others (eqb-true (length others) 0 (sym c.is_empty.ensures ∙ c.if-is_empty.true)))
    c.push_only.new.lines.items c.in_ok-push_only.ensures.lines

pub returns-clause-grown : goal.returns-clause-grown
returns-clause-grown c =
    let x = c.args.x.now in
    let offers = c.args.offers.now in
    let front = c.reached-front.result.now in
    let left_is = c.has_one_left-left.ensures ∙ ap (has_one_left offers) c.items.ensures in
    let made : List Line = c.in_ok-within_x.within_x.items in
    let others = c.in-Some.others.now in
    let some = subst (λ b. IsSome c.args.limit (spread b c.args.best c.args.x.now.results (line [] c.args.x.now.cube ∷ []) c.in-Some.others.now) c.in-Some.others.now (c.args.x.now ∷ []) c.in_ok-within_x.within_x.items) left_is c.in_ok-within_x.ensures in
    grown_last c.args.limit c.args.best offers x c.args.lines.now.items c.args.receivers.now front
    (reached_for c.args.best offers x c.args.receivers.now front c.has_one_left-left.result c.items-2.result.now c.items-2.ensures left_is c.reached-front.ensures)
    others c.in-Some.last.now c.in-Some.ensures.cases.0 made some
    c.push_product.new.lines.items (some.whole_within (omega (arith, c.len.ensures, c.in_ok-within_x.within_x.ok, c.if-len-limit.false)))
    (subst (λ xs. IsAdded c.args.limit c.args.lines.now.items xs c.in-Some.last.now.lines c.push_product.new.lines.items) c.deref.ensures.value c.in_ok-push_product.ensures.added)
