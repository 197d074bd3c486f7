use Rattle.std.proofs.Common.{◌≡◌, drop, length}
use Rattle.std.specs.Cmp.Lexicographic.{pointwise}
use Rattle.net_types.proofs.same.same_items.Given as goal

abbrev pub invariant-loop-i : goal.invariant-loop-i
invariant-loop-i g l = record {
  left : pointwise g.T.Same.same (drop l.i l.one) (drop l.i l.other) ≡ pointwise g.T.Same.same l.one l.other;
  long : length l.one ≡ length l.other;
}
