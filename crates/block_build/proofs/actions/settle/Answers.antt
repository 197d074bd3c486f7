-- Nothing is moved at first, and then one action at a time.
use Rattle.std.proofs.Common.{refl, ◌∙◌}
use Rattle.std.proofs.lemmas.List.Sorted.{IsPermutation-refl, IsPermutation-trans, length_permutation}
use Rattle.block_build.proofs.actions.settle.Goals as goal

pub loop-place-init : goal.loop-place-init
loop-place-init c = record { moved = IsPermutation-refl _; as_long = refl }

pub loop-place-preserved : goal.loop-place-preserved
loop-place-preserved c = record {
  moved = IsPermutation-trans _ _ _ c.loop-place.invariant.moved c.settle_at.ensures;
  as_long = length_permutation _ _ c.settle_at.ensures ∙ c.loop-place.invariant.as_long;
}
