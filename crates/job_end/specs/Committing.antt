-- When the end of a job can be committed (this exchange's own rule).
use Rattle.std.specs.Prelude.{◌≤◌, length}
use Rattle.advert_queue.specs.Advertised.{Advertised}
use Rattle.block_build.specs.Installed.{Installed, rule_count}
use Rattle.events.specs.After.{without_pairs}
use Rattle.exchange_laws.specs.Listed.{is_pair_before}
use Rattle.fast_path.specs.Committing.{AreTaken, AreUnused}
use Rattle.fast_path.specs.Offers.{AreTo, HaveRoom}
use Rattle.job_end.specs.Rebuilt.{IsFewer}
use Rattle.job_end.specs.declared.ended.End.{End}
use Rattle.net_types.specs.Sets.{IsRising, Member}
use Rattle.net_types.specs.declared.rule.Pair.{Pair}
use Rattle.next_hop_pool.specs.Free.{Tags}
use Rattle.prefix_classes.specs.Classes.{Classes}
use Rattle.prefix_classes.specs.Merging.{IsMergeOf, moved}
use Rattle.recompile.specs.declared.swap.Swap.{Swap}

-- The end can be committed: the moves merge the classes, its dead tags are taken and will be no prefix's, each pair that gets
-- other rules has no fewer than were built for it, the table isn't over full, and there is room for all that is offered.
pub record CanEnd (swap : Swap) (end : End) (classes : Classes) (pool : Tags) (switch : Installed) (adverts : Advertised) : Type 0 where
  pub moves : IsMergeOf classes.tag classes.kept swap.moves
  pub unused : AreUnused (moved classes.tag swap.moves) end.dead.items
  pub taken : AreTaken pool end.dead.items
  pub rising : IsRising is_pair_before end.changed
  pub fewer : (pair : Pair) → Member pair end.changed → IsFewer (without_pairs switch.table end.gone) swap.built pair
  pub few : rule_count switch.table ≤ switch.capacity
  pub known : AreTo (length adverts.told) end.offers.items
  pub offers_room : HaveRoom adverts end.offers.items
