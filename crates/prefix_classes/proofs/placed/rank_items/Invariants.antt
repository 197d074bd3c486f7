-- The lists differ as what is left of them does.
use Rattle.std.proofs.Common.{◌≡◌, ◌≤◌, drop, length}
use Rattle.std.specs.Cmp.Lexicographic.{slice_cmp}
use Rattle.prefix_classes.proofs.placed.rank_items.Given as goal

abbrev pub invariant-loop-i : goal.invariant-loop-i
invariant-loop-i g l = record {
  left : slice_cmp g.T.Ranked.order (drop l.i l.one) (drop l.i l.other) ≡ slice_cmp g.T.Ranked.order l.one l.other;
  within : l.i ≤ length l.other;
}
