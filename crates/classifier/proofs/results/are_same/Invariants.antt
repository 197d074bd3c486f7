use Rattle.std.proofs.Common.{◌≡◌, drop, length}
use Rattle.std.specs.Cmp.Lexicographic.{pointwise}
use Rattle.classifier.specs.Items.{same_item}
use Rattle.classifier.proofs.results.are_same.Given as goal

-- what is left decides
abbrev pub invariant-loop-i : goal.invariant-loop-i
invariant-loop-i l = record {
  left : pointwise same_item (drop l.i l.one) (drop l.i l.other) ≡ pointwise same_item l.one l.other;
  long : length l.one ≡ length l.other;
}
