-- Nothing is moved at first, and then two actions at a time.
use Rattle.std.proofs.Common.{refl, ◌∙◌}
use Rattle.std.proofs.lemmas.List.Sorted.{IsPermutation-refl, IsPermutation-trans}
use Rattle.block_build.proofs.actions.settle_at.Goals as goal

pub loop-at-init : goal.loop-at-init
loop-at-init c = record { moved = IsPermutation-refl _; as_long = refl }

pub loop-at-preserved : goal.loop-at-preserved
loop-at-preserved c = record {
  moved = IsPermutation-trans _ _ _ c.loop-at.invariant.moved c.swap.ensures.permutation;
  as_long = c.swap.ensures.len ∙ c.loop-at.invariant.as_long;
}
