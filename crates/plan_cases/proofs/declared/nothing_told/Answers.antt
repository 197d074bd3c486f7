use Rattle.std.proofs.Common.{◌++◌, ◌∷◌, [], ap, ◌∙◌}
use Rattle.std.specs.FinMap.{FinMap, empty}
use Rattle.std.proofs.lemmas.List.{replicate-append-replicate}
use Rattle.events.specs.declared.Entry.{Entry}
use Rattle.net_types.specs.Keys.{prefix_cmp}
use Rattle.plan_cases.proofs.declared.nothing_told.Goals as goal

abbrev one : FinMap prefix_cmp Entry
one = empty

pub loop-joined-preserved : goal.loop-joined-preserved
loop-joined-preserved c = record {
  told = c.in_ok-push.ensures.told ∙ ap (λ es. es ++ one ∷ []) c.loop-joined.invariant.told ∙ replicate-append-replicate c.loop-joined.joined 1 one;
  present = c.in_ok-push.ensures.present ∙ ap (λ es. es ++ one ∷ []) c.loop-joined.invariant.present ∙ replicate-append-replicate c.loop-joined.joined 1 one;
}
