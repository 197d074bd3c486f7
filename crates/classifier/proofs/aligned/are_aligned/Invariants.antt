-- The cubes so far are the same.
use Rattle.std.proofs.Common.{◌≡◌, length, take}
use Rattle.classifier.specs.Meaning.{cubes_of}
use Rattle.classifier.proofs.aligned.are_aligned.Given as goal

abbrev pub invariant-loop-i : goal.invariant-loop-i
invariant-loop-i l = record {
  same : cubes_of (take l.i l.xs) ≡ cubes_of (take l.i l.ys);
  long : length l.xs ≡ length l.ys;
}
