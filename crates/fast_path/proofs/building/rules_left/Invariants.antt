-- Those of the pairs so far are left out.
use Rattle.std.proofs.Common.{◌≡◌, ◌-◌, sum_by, take}
use Rattle.block_build.specs.Installed.{count_at, rule_count}
use Rattle.fast_path.proofs.building.rules_left.Given as goal

abbrev pub invariant-loop-pair : goal.invariant-loop-pair
invariant-loop-pair g l = l.left ≡ rule_count (g.B.Blocks.installed l.switch).table - sum_by (count_at (g.B.Blocks.installed l.switch).table) (take l.pair-index l.drops)
