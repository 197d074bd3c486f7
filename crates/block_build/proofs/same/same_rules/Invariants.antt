-- The rules that are left decide.
use Rattle.std.proofs.Common.{◌≡◌, drop, length}
use Rattle.std.specs.Cmp.Lexicographic.{pointwise}
use Rattle.events.specs.Sound.{same_rule}
use Rattle.block_build.proofs.same.same_rules.Given as goal

abbrev pub invariant-loop-i : goal.invariant-loop-i
invariant-loop-i l = record {
  left : pointwise same_rule (drop l.i l.one) (drop l.i l.other) ≡ pointwise same_rule l.one l.other;
  long : length l.one ≡ length l.other;
}
