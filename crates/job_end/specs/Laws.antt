-- What the end of a job leads to, once it is carried out (this exchange's own rule).
use Rattle.std.specs.Prelude.{◌≡◌, ℕ, ◌≤◌, false, Some, None, length}
use Rattle.advert_queue.specs.Advertised.{Advertised}
use Rattle.block_build.specs.Installed.{Installed}
use Rattle.events.specs.After.{next}
use Rattle.events.specs.Fits.{Fits, IsFinished, bare}
use Rattle.events.specs.Refusals.{refusal}
use Rattle.events.specs.State.{State}
use Rattle.events.specs.declared.Event.TheVariants.{Work}
use Rattle.events.specs.declared.Head.TheVariants.{Finished}
use Rattle.events.specs.declared.Reply.{Reply}
use Rattle.exchange_laws.specs.Steady.{IsSteady}
use Rattle.fast_path.specs.Committing.{kept_without, marked_all}
use Rattle.fast_path.specs.Offers.{AreTo, HaveRoom, all_present, offered_all}
use Rattle.fast_path.specs.Planned.{IsPoolOf}
use Rattle.job_end.specs.Committing.{CanEnd}
use Rattle.job_end.specs.Ends.{IsEnd, ended}
use Rattle.job_end.specs.Rebuilt.{table_with}
use Rattle.job_end.specs.declared.ended.End.{End}
use Rattle.job_laws.specs.Ending.{IsTableAtEnd}
use Rattle.job_laws.specs.Jobs.{IsSteadyInJob}
use Rattle.next_hop_pool.specs.Free.{Tags}
use Rattle.prefix_classes.specs.Classes.{Classes}
use Rattle.prefix_classes.specs.Merging.{moved}
use Rattle.recompile.specs.Setting.{setting_of}
use Rattle.recompile.specs.Working.{IsSwap}
use Rattle.recompile.specs.declared.swap.Swap.{Swap}

-- the end is one for a steady state, in which a job may run, by a swap for it
pub record IsEndOf (s : State) (swap : Swap) (end : End) : Type 0 where
  pub steady : IsSteadyInJob s
  pub is_swap : IsSwap (setting_of s) swap
  pub is : IsEnd s swap end

-- the classes, the pool, the table and the adverts have the tags, the signatures, the free tags, the rules, and what was told and
-- is present, of the state
pub record ArePartsOf (s : State) (classes : Classes) (p : Tags) (switch : Installed) (adverts : Advertised) : Type 0 where
  pub tag : s.tag ≡ classes.tag
  pub kept : s.kept ≡ classes.kept
  pub pool : IsPoolOf s p
  pub table : s.table ≡ switch.table
  pub capacity : s.capacity ≡ switch.capacity
  pub told : s.told ≡ adverts.told
  pub present : all_present s ≡ adverts.present

-- what the end makes of the parts is what a state has
pub record LeadsTo (s : State) (swap : Swap) (end : End) (classes : Classes) (p : Tags) (switch : Installed) (adverts : Advertised) : Type 0 where
  pub tag : moved classes.tag swap.moves ≡ s.tag
  pub kept : kept_without classes.kept end.dead.items ≡ s.kept
  pub pool : IsPoolOf s (marked_all p end.dead.items false)
  pub table : table_with switch.table swap.built end.gone end.changed ≡ s.table
  pub told : adverts.told ≡ s.told
  pub present : offered_all adverts.present end.offers.items ≡ all_present s

-- the reply that says what the end says
abbrev pub end_reply : End → Reply
end_reply end = record (bare Finished) { tags = end.tags; drops = end.drops; adds = end.adds }

-- an end's offers are to participants of the state, for which there can be room in the adverts
abbrev pub OffersAreKnown : Type 0
OffersAreKnown = (s : State) (swap : Swap) (end : End) → IsEndOf s swap end → AreTo (length s.told) end.offers.items

-- an end can be committed to parts of the state that have room for its offers
abbrev pub EndsCanBeCommitted : Type 0
EndsCanBeCommitted =
    (s : State) (swap : Swap) (end : End) (classes : Classes) (pool : Tags) (switch : Installed) (adverts : Advertised)
    → IsEndOf s swap end → ArePartsOf s classes pool switch adverts → HaveRoom adverts end.offers.items → CanEnd swap end classes pool switch adverts

-- committed, it leads to the state with merged classes and tight rules
abbrev pub EndsLeadOn : Type 0
EndsLeadOn =
    (s : State) (swap : Swap) (end : End) (classes : Classes) (pool : Tags) (switch : Installed) (adverts : Advertised)
    → IsEndOf s swap end → ArePartsOf s classes pool switch adverts → LeadsTo (ended s swap end) swap end classes pool switch adverts

-- its table is one for the end of a job, and the reply that says what the end says tells it
abbrev pub EndsAreFinished : Type 0
EndsAreFinished = (s : State) (swap : Swap) (end : End) → IsEndOf s swap end → IsTableAtEnd s (ended s swap end).table × IsFinished s (ended s swap end) (end_reply end)

-- so `work` of as many units as the job owes, or more, leads to the same state, which is steady, and the reply fits it
abbrev pub EndsFitLines : Type 0
EndsFitLines =
    (s : State) (units owed : ℕ) (swap : Swap) (end : End) → IsEndOf s swap end → refusal s (Work units) ≡ None → s.owed ≡ Some owed → owed ≤ units
    → (next s (Work units) (end_reply end) ≡ ended s swap end) × Fits s (Work units) (end_reply end) × IsSteady (ended s swap end)
