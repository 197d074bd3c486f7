-- The actions so far are those given, in another order.
use Rattle.std.proofs.Common.{◌≡◌, IsPermutation, length}
use Rattle.block_build.proofs.actions.settle.Given as goal

abbrev pub invariant-loop-place : goal.invariant-loop-place
invariant-loop-place l = record { moved : IsPermutation l.fn.actions l.actions; as_long : length l.actions ≡ length l.fn.actions }
