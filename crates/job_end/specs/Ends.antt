-- What the end of a job says (this exchange's own rule).
use Rattle.std.specs.Prelude.{◌≡◌, Bool}
use Rattle.block_build.specs.Installed.{Installed}
use Rattle.events.specs.After.{merged}
use Rattle.events.specs.Fits.{flows_of, tag_changes}
use Rattle.events.specs.State.{State}
use Rattle.exchange_laws.specs.Listed.{AreLiveOnly, AreThose, comes, goes}
use Rattle.fast_path.specs.LiveOnly.{AreDead}
use Rattle.fast_path.specs.Offers.{AreOffers, all_present}
use Rattle.fast_path.specs.Planned.{is_tag_below}
use Rattle.job_end.specs.Rebuilt.{blocks_of, has_others, table_with}
use Rattle.job_end.specs.declared.ended.End.{End}
use Rattle.job_laws.specs.Jobs.{IsSteadyInJob}
use Rattle.net_types.specs.Sets.{IsRising, union_over}
use Rattle.net_types.specs.declared.rule.Pair.{Pair}
use Rattle.advert_queue.specs.Advertised.{Advertised}
use Rattle.prefix_classes.specs.Classes.{Classes}
use Rattle.recompile.specs.Setting.{setting_of}
use Rattle.recompile.specs.Underway.{BuiltPairs}
use Rattle.recompile.specs.Working.{IsSwap}
use Rattle.recompile.specs.declared.swap.Swap.{Swap}
use Rattle.registry.specs.Registered.{Registered}

-- the parts of an exchange show a steady state, in which a job may run, and the swap is one for it
pub record IsEnding (s : State) (names : Registered) (classes : Classes) (adverts : Advertised) (switch : Installed) (swap : Swap) : Type 0 where
  pub steady : IsSteadyInJob s
  pub participants : s.routing.participants ≡ names.participants
  pub ports : s.routing.ports ≡ names.ports
  pub tag : s.tag ≡ classes.tag
  pub kept : s.kept ≡ classes.kept
  pub told : s.told ≡ adverts.told
  pub present : all_present s ≡ adverts.present
  pub table : s.table ≡ switch.table
  pub is_swap : IsSwap (setting_of s) swap

-- some state for which the parts are ending
abbrev pub IsEndingFor : Registered → Classes → Advertised → Installed → Swap → Type 0
IsEndingFor names classes adverts switch swap = (s : State) × IsEnding s names classes adverts switch swap

-- the rules of a pair go, and those of one that stays come: other ones were built for it
abbrev pub is_other : State → BuiltPairs → Pair → Bool
is_other s built pair = has_others s.table built pair

-- The end has what becomes of tags and rules: the pairs that go and those that stay and get other rules, the tags that are live
-- no more, and what becomes present for each participant.
pub record IsEnd (s : State) (swap : Swap) (end : End) : Type 0 where
  pub tags : end.tags ≡ tag_changes s.tag (merged s).tag
  pub gone : AreLiveOnly s (merged s) end.gone
  pub changed : AreThose (comes s (merged s) (is_other s swap.built)) end.changed
  pub drops : AreThose (goes s (merged s) (is_other s swap.built)) end.drops
  pub adds : end.adds ≡ union_over flows_of (blocks_of swap.built end.changed)
  pub dead : AreDead s (merged s) end.dead.items
  pub rising : IsRising is_tag_below end.dead.items
  pub offers : AreOffers s (merged s) end.offers.items

-- the state that the end leaves
abbrev pub ended : State → Swap → End → State
ended s swap end = record (merged s) { table = table_with s.table swap.built end.gone end.changed }
