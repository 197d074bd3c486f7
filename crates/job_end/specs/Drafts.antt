-- What is found for the end of a job, by the moves, the rules that were built, and the parts of an exchange (this exchange's own rule).
use Rattle.std.specs.Prelude.{◌≡◌, List, map, Some}
use Rattle.std.specs.FinMap.{FinMap}
use Rattle.events.specs.Fits.{flows_of}
use Rattle.events.specs.declared.TagChange.{TagChange}
use Rattle.fast_path.specs.Emptied.{old_tags}
use Rattle.fast_path.specs.Offers.{declared_pids}
use Rattle.fast_path.specs.Pairs.{dropped_pairs, gone_pairs, untold}
use Rattle.job_end.specs.Offers.{Move, offers_of}
use Rattle.job_end.specs.Rebuilt.{Rules, blocks_of, changed_pairs}
use Rattle.job_end.specs.declared.ended.End.{End}
use Rattle.net_types.specs.Keys.{prefix_cmp, tag_cmp}
use Rattle.net_types.specs.Maps.{ordered}
use Rattle.net_types.specs.Sets.{union_over}
use Rattle.net_types.specs.declared.address.Tag.{Tag}
use Rattle.advert_queue.specs.Advertised.{Advertised}
use Rattle.prefix_classes.specs.Classes.{Classes}
use Rattle.recompile.specs.declared.swap.Swap.{Swap}
use Rattle.registry.specs.Registered.{Registered}

-- a move as a reply tells it
abbrev pub told_change : Move → TagChange
told_change m = record { prefix = m.0; tag = Some m.1 }

-- the tags that the moved prefixes had, ascending
abbrev pub left_tags : FinMap prefix_cmp Tag → List Move → List Tag
left_tags tags moves = ordered tag_cmp (old_tags tags (map told_change moves))

-- each part of an end, as it is found
pub record IsDraft (names : Registered) (classes : Classes) (adverts : Advertised) (table : Rules) (swap : Swap) (end : End) : Type 0 where
  pub tags : end.tags ≡ map told_change swap.moves
  pub gone : end.gone ≡ gone_pairs names classes.kept adverts.told (left_tags classes.tag swap.moves)
  pub changed : end.changed ≡ changed_pairs table swap.built end.gone
  pub drops : end.drops ≡ dropped_pairs end.gone end.changed
  pub adds : end.adds ≡ union_over flows_of (blocks_of swap.built end.changed)
  pub dead : end.dead.items ≡ untold adverts.told (left_tags classes.tag swap.moves)
  pub offers : end.offers.items ≡ offers_of adverts.present (declared_pids names) swap.moves
