-- Those that have rules stay in the list.
use Rattle.std.proofs.Common.{◌≤◌, length}
use Rattle.recompile.specs.Units.{HasRules, KeepsThose}
use Rattle.recompile.proofs.lists.pair_to_do.Given as goal

abbrev pub invariant-loop-pair : goal.invariant-loop-pair
invariant-loop-pair g l = record {
  kept : KeepsThose (HasRules (g.B.Blocks.installed l.switch).table) l.fn.pairs.items l.pairs.items;
  fewer : length l.pairs.items ≤ length l.fn.pairs.items;
}

abbrev pub decreases-loop-pair : goal.decreases-loop-pair
decreases-loop-pair g l = l.pairs.len
