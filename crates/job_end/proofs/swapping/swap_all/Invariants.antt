use Rattle.std.proofs.Common.{◌≡◌, ◌≤◌, drop}
use Rattle.block_build.specs.Installed.{rule_count}
use Rattle.exchange_laws.specs.Listed.{is_pair_before}
use Rattle.fast_path.specs.Committing.{with_blocks}
use Rattle.job_end.specs.Rebuilt.{IsFewer, blocks_of}
use Rattle.net_types.specs.Sets.{IsRising, Member}
use Rattle.net_types.specs.declared.rule.Pair.{Pair}
use Rattle.job_end.proofs.swapping.swap_all.Given as goal

abbrev pub invariant-loop-pair : goal.invariant-loop-pair
invariant-loop-pair g l = record {
  rest : with_blocks (g.B.Blocks.installed l.switch).table (blocks_of l.built (drop l.pair-index l.pairs)) ≡ with_blocks (g.B.Blocks.installed l.fn.switch).table (blocks_of l.fn.built l.pairs);
  rising : IsRising is_pair_before (drop l.pair-index l.pairs);
  fewer : (pair : Pair) → Member pair (drop l.pair-index l.pairs) → IsFewer (g.B.Blocks.installed l.switch).table l.built pair;
  few : rule_count (g.B.Blocks.installed l.switch).table ≤ (g.B.Blocks.installed l.switch).capacity;
  capacity : (g.B.Blocks.installed l.switch).capacity ≡ (g.B.Blocks.installed l.fn.switch).capacity;
}
