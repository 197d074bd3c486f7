-- The first pairs have their blocks, which have room, and each was a step at most.
use Rattle.std.proofs.Common.{◌≡◌, ◌≤◌, ◌+◌, map, take}
use Rattle.fast_path.specs.Building.{AreRightFor, site_of}
use Rattle.fast_path.specs.Committing.{block_count}
use Rattle.fast_path.specs.Last.{AreLast}
use Rattle.fast_path.specs.Plans.{pair_of}
use Rattle.fast_path.proofs.building.blocks_for.Given as goal

abbrev pub invariant-loop-pair : goal.invariant-loop-pair
invariant-loop-pair g l = record {
  pairs_are : map pair_of l.blocks.items ≡ take l.pair-index l.pairs;
  right : AreRightFor (site_of l.names l.known l.fresh l.views) l.blocks.items;
  counted : l.built ≡ block_count l.blocks.items;
  within : l.built ≤ l.room;
  last : AreLast l.views l.blocks.items l.lasts;
  few : l.steps ≤ l.initial.steps + l.pair-index;
}
