-- The cubes so far are the same.
use Rattle.std.proofs.Common.{◌≡◌, length, take}
use Rattle.block_build.proofs.tables.are_same.Given as goal

abbrev pub invariant-loop-i : goal.invariant-loop-i
invariant-loop-i l = record {
  same : take l.i l.one ≡ take l.i l.other;
  long : length l.one ≡ length l.other;
}
