-- The parts are alike, so the rules are right for both.
use Rattle.std.proofs.Common.{◌≡◌, true, Some, rules, sym, ap, subst, ◌∙◌}
use Rattle.std.specs.Prelude.{slice_get}
use Rattle.std.proofs.lemmas.Option.{slice_get-get_or}
use Rattle.fast_path.proofs.LastLemmas.{right_alike}
use Rattle.fast_path.specs.Last.{IsLast, IsRightByViews}
use Rattle.fast_path.proofs.last.built_as.Goals as goal

pub returns-clause-right : goal.returns-clause-right
returns-clause-right c =
    let all = c.args.views.now in
    let part = c.args.part.now in
    let last = subst (IsLast all c.args.blocks.now) c.in-Some.is c.requires.last in
    let told : c.is_alike.result ≡ true = let is = c.if-not-is_alike.false in search rules in
    let pair = c.in-Some-get.field-0.now in
    let at : slice_get c.args.blocks.now c.in-Some.before.place ≡ Some pair = slice_get-get_or c.args.blocks.now c.in-Some.before.place pair last.within ∙ sym (ap Some c.in-Some-get.ensures.lookup.1) in
    subst (IsRightByViews all part) (sym c.in_ok-copy.ensures) (right_alike all c.in-Some.before.part part pair.1 (c.is_alike.ensures told) (last.right pair at))
