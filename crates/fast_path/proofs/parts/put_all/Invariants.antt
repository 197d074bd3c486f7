use Rattle.std.proofs.Common.{◌≡◌, ◌≤◌, ◌+◌, length}
use Rattle.block_build.specs.Installed.{rule_count}
use Rattle.fast_path.specs.Committing.{block_count, with_blocks}
use Rattle.fast_path.proofs.parts.put_all.Given as goal

abbrev pub invariant-loop-block : goal.invariant-loop-block
invariant-loop-block g l = record {
  rest : with_blocks (g.B.Blocks.installed l.switch).table l.block-iterator.rest.items ≡ with_blocks (g.B.Blocks.installed l.fn.switch).table l.fn.blocks.items;
  capacity : (g.B.Blocks.installed l.switch).capacity ≡ (g.B.Blocks.installed l.fn.switch).capacity;
  room : length l.block-iterator.rest.items ≤ (g.B.Blocks.installed l.switch).room;
  few : rule_count (g.B.Blocks.installed l.switch).table + block_count l.block-iterator.rest.items ≤ (g.B.Blocks.installed l.switch).capacity;
}
