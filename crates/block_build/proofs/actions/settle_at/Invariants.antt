-- The actions so far are those given, in another order.
use Rattle.std.proofs.Common.{◌≡◌, IsPermutation, length}
use Rattle.block_build.proofs.actions.settle_at.Given as goal

abbrev pub invariant-loop-at : goal.invariant-loop-at
invariant-loop-at l = record { moved : IsPermutation l.fn.actions l.actions; as_long : length l.actions ≡ length l.fn.actions }
