-- The end of a job, committed to the parts of an exchange.
use Rattle.std.proofs.Common.{◌≡◌, ℕ, ◌≤◌, true, List, sym, ap, subst, ◌∙◌, refl, arith}
use Rattle.std.specs.Prelude.{Some, None}
use Rattle.std.specs.FinMap.{FinMap, keys}
use Rattle.advert_queue.specs.Advertised.{Advertised}
use Rattle.block_build.specs.Installed.{Installed}
use Rattle.events.specs.After.{next}
use Rattle.events.specs.Fits.{Fits, bare}
use Rattle.events.specs.Refusals.{refusal}
use Rattle.events.specs.State.{State}
use Rattle.events.specs.declared.Entry.{Entry}
use Rattle.events.specs.declared.Event.TheVariants.{Work}
use Rattle.events.specs.declared.Head.TheVariants.{Finished}
use Rattle.events.specs.declared.Phase.{Phase}
use Rattle.events.specs.declared.Phase.TheVariants.{Declaring, Running, Start}
use Rattle.events.specs.declared.Reply.{Reply}
use Rattle.exchange_core.specs.Jobs.{EndsJob}
use Rattle.exchange_core.specs.Placed.{is_declared}
use Rattle.exchange_core.specs.View.{IsKept, state_of}
use Rattle.exchange_core.specs.declared.programs.Programs.{Programs}
use Rattle.exchange_laws.specs.Steady.{IsSteady}
use Rattle.exchange_laws.specs.Unchanged.{OwesFew}
use Rattle.fast_path.specs.Committing.{kept_without}
use Rattle.fast_path.specs.Offers.{all_present}
use Rattle.fast_path.specs.Planned.{IsPoolOf}
use Rattle.fast_path.specs.declared.planned.Changes.{Changes}
use Rattle.job_end.specs.Ends.{IsEnd, IsEnding, ended}
use Rattle.job_end.specs.Laws.{ArePartsOf, EndsFitLines, EndsLeadOn, IsEndOf, LeadsTo, end_reply}
use Rattle.job_end.specs.Rebuilt.{table_with}
use Rattle.job_end.specs.declared.ended.End.{End}
use Rattle.job_laws.specs.Jobs.{IsSteadyInJob, without_job}
use Rattle.net_types.specs.Keys.{prefix_cmp}
use Rattle.net_types.specs.declared.address.Ip.{Ip}
use Rattle.net_types.specs.declared.rule.Pair.{Pair}
use Rattle.next_hop_pool.specs.Free.{Tags}
use Rattle.prefix_classes.specs.Classes.{Classes}
use Rattle.prefix_classes.specs.Merging.{moved}
use Rattle.recompile.specs.Setting.{setting_of}
use Rattle.recompile.specs.Working.{IsSwap}
use Rattle.recompile.specs.declared.swap.Swap.{Swap}
use Rattle.registry.specs.Registered.{Registered}
use Rattle.route_server.specs.Served.{Served}

-- the parts have what the exchange has
pub record Shows (core : State) (names : Registered) (classes : Classes) (pool : Tags) (switch : Installed) (adverts : Advertised) : Type 0 where
  pub participants : core.routing.participants ≡ names.participants
  pub ports : core.routing.ports ≡ names.ports
  pub tag : core.tag ≡ classes.tag
  pub kept : core.kept ≡ classes.kept
  pub free : IsPoolOf core pool
  pub table : core.table ≡ switch.table
  pub capacity : core.capacity ≡ switch.capacity
  pub told : core.told ≡ adverts.told
  pub present : all_present core ≡ adverts.present

pub shown_by : (phase : Phase) (base : Ip) (size : ℕ) (names : Registered) (served : Served) (resolved : List (List Ip)) (classes : Classes) (adverts : Advertised) (installed : Installed) (programs : List Programs) (pool : Tags)
    → let core = state_of phase base size names served resolved classes adverts.told installed programs in IsKept core pool programs → adverts.present ≡ all_present core → Shows core names classes pool installed adverts
shown_by phase base size names served resolved classes adverts installed programs pool is present = record {
  participants = refl;
  ports = refl;
  tag = refl;
  kept = refl;
  free = record { free = sym is.free; size = is.size; base = is.base };
  table = refl;
  capacity = refl;
  told = refl;
  present = sym present;
}

-- so they have where room was reserved
pub shown_still : (core : State) (names : Registered) (classes : Classes) (pool : Tags) (switch : Installed) (adverts adverts' : Advertised) → Shows core names classes pool switch adverts → adverts'.told ≡ adverts.told → adverts'.present ≡ adverts.present
    → Shows core names classes pool switch adverts'
shown_still core names classes pool switch adverts adverts' shows told present = record {
  participants = shows.participants;
  ports = shows.ports;
  tag = shows.tag;
  kept = shows.kept;
  free = shows.free;
  table = shows.table;
  capacity = shows.capacity;
  told = shows.told ∙ sym told;
  present = shows.present ∙ sym present;
}

-- the exchange with a job is steady where it is without
pub steady_with : (core s : State) → without_job s ≡ core → IsSteady core → OwesFew s.owed → IsSteadyInJob s
steady_with core s is steady few = record { steady = subst IsSteady (sym is) steady; few = few }

module _ (core : State) (names : Registered) (classes : Classes) (pool : Tags) (switch : Installed) (adverts : Advertised) (shows : Shows core names classes pool switch adverts) (s : State) (is : without_job s ≡ core) where
  -- so the parts are ending
  pub ending : IsSteadyInJob s → (swap : Swap) → IsSwap (setting_of core) swap → IsEnding s names classes adverts switch swap
  ending steady swap swaps = record {
    steady = steady;
    participants = ap (λ (x : State). x.routing.participants) is ∙ shows.participants;
    ports = ap (λ (x : State). x.routing.ports) is ∙ shows.ports;
    tag = ap (λ (x : State). x.tag) is ∙ shows.tag;
    kept = ap (λ (x : State). x.kept) is ∙ shows.kept;
    told = ap (λ (x : State). x.told) is ∙ shows.told;
    present = ap all_present is ∙ shows.present;
    table = ap (λ (x : State). x.table) is ∙ shows.table;
    is_swap = subst (λ (x : State). IsSwap (setting_of x) swap) (sym is) swaps;
  }

  -- and the state's
  pub parts : ArePartsOf s classes pool switch adverts
  parts = record {
    tag = ap (λ (x : State). x.tag) is ∙ shows.tag;
    kept = ap (λ (x : State). x.kept) is ∙ shows.kept;
    pool = record { free = (subst (λ (x : State). IsPoolOf x pool) (sym is) shows.free).free; size = shows.free.size ∙ ap (λ (x : State). x.size) (sym is); base = shows.free.base ∙ ap (λ (x : State). x.base) (sym is) };
    table = ap (λ (x : State). x.table) is ∙ shows.table;
    capacity = ap (λ (x : State). x.capacity) is ∙ shows.capacity;
    told = ap (λ (x : State). x.told) is ∙ shows.told;
    present = ap all_present is ∙ shows.present;
  }

-- so the end is one for it
pub end_of : (core s : State) → without_job s ≡ core → IsSteady core → OwesFew s.owed → (swap : Swap) (end : End) → IsSwap (setting_of core) swap → IsEnd s swap end → IsEndOf s swap end
end_of core s is steady few swap end swaps ends = record { steady = steady_with core s is steady few; is_swap = subst (λ (x : State). IsSwap (setting_of x) swap) (sym is) swaps; is = ends }

-- a job may end once the pool is declared
may_end : (core : State) → is_declared core.phase ≡ true → refusal (record core { owed = Some 0 }) (Work 0) ≡ None
may_end core declared = by core.phase refl
  where
    by : (phase : Phase) → core.phase ≡ phase → refusal (record core { owed = Some 0 }) (Work 0) ≡ None
    by Start at = absurd (let no = sym (ap is_declared at) ∙ declared in cc)
    by Declaring at = ap (λ p. refusal (record core { phase = p; owed = Some 0 }) (Work 0)) at
    by Running at = ap (λ p. refusal (record core { phase = p; owed = Some 0 }) (Work 0)) at

module _ (phase : Phase) (base : Ip) (size : ℕ) (names : Registered) (served : Served) (resolved : List (List Ip)) (classes : Classes) (told : List (FinMap prefix_cmp Entry)) (installed : Installed) (programs : List Programs)
    (swap : Swap) (end : End) (classes' : Classes) (told' : List (FinMap prefix_cmp Entry)) (installed' : Installed) where
  abbrev core : State
  core = state_of phase base size names served resolved classes told installed programs

  abbrev after : State
  after = state_of Running base size names served resolved classes' told' installed' programs

  -- what the parts have once it is committed
  pub record Committed (s : State) : Type 0 where
    pub tag_is : classes'.tag ≡ (ended s swap end).tag
    pub kept_is : classes'.kept ≡ (ended s swap end).kept
    pub told_is : told' ≡ (ended s swap end).told
    pub table_is : installed'.table ≡ (ended s swap end).table
    pub capacity_is : installed'.capacity ≡ installed.capacity

  module _ (pool : Tags) (adverts : Advertised) (shows : Shows core names classes pool installed adverts) (law : EndsLeadOn) (steady : IsSteady core) (swaps : IsSwap (setting_of core) swap)
      (ends : (s : State) → IsSteadyInJob s → without_job s ≡ core → IsEnd s swap end) where
    pub reached : (s : State) → IsSteadyInJob s → without_job s ≡ core → LeadsTo (ended s swap end) swap end classes pool installed adverts
    reached s in_job is = law s swap end classes pool installed adverts (end_of core s is steady in_job.few swap end swaps (ends s in_job is)) (parts core names classes pool installed adverts shows s is)

    pub committed : classes'.tag ≡ moved classes.tag swap.moves → classes'.kept ≡ kept_without classes.kept end.dead.items → installed'.table ≡ table_with installed.table swap.built end.gone end.changed
        → installed'.capacity ≡ installed.capacity → told' ≡ adverts.told → (s : State) → IsSteadyInJob s → without_job s ≡ core → Committed s
    committed tag kept table capacity same s in_job is =
        let to = reached s in_job is in record { tag_is = tag ∙ to.tag; kept_is = kept ∙ to.kept; told_is = same ∙ to.told; table_is = table ∙ to.table; capacity_is = capacity }

  pub then_ended : (s : State) → without_job s ≡ core → Committed s → after ≡ ended s swap end
  then_ended s is done = λ i. record {
    phase = Running;
    base = ap (λ (x : State). x.base) (sym is) i;
    size = ap (λ (x : State). x.size) (sym is) i;
    capacity = (done.capacity_is ∙ ap (λ (x : State). x.capacity) (sym is)) i;
    routing = ap (λ (x : State). x.routing) (sym is) i;
    outbound = ap (λ (x : State). x.outbound) (sym is) i;
    inbound = ap (λ (x : State). x.inbound) (sym is) i;
    tag = done.tag_is i;
    kept = done.kept_is i;
    told = done.told_is i;
    resolved = ap (λ (x : State). x.resolved) (sym is) i;
    table = done.table_is i;
    owed = None;
  }

  module _ (law : EndsFitLines) (steady : IsSteady core) (swaps : IsSwap (setting_of core) swap) (ends : (s : State) → IsSteadyInJob s → without_job s ≡ core → IsEnd s swap end) (done : (s : State) → IsSteadyInJob s → without_job s ≡ core → Committed s) where
    fit : (s : State) (units owed : ℕ) (is : without_job s ≡ core) → OwesFew s.owed → refusal s (Work units) ≡ None → s.owed ≡ Some owed → owed ≤ units
        → (next s (Work units) (end_reply end) ≡ ended s swap end) × Fits s (Work units) (end_reply end) × IsSteady (ended s swap end)
    fit s units owed is few passes owes enough = law s units owed swap end (end_of core s is steady few swap end swaps (ends s (steady_with core s is steady few) is)) passes owes enough

    -- the line by which the job ends leads there
    pub ends_job : (reply : Reply) → reply ≡ end_reply end → EndsJob core reply after
    ends_job reply says s units owed is few passes owes enough =
        let fits = fit s units owed is few passes owes enough in
        record {
          fits = subst (Fits s (Work units)) (sym says) fits.1;
          next = then_ended s is (done s (steady_with core s is steady few) is) ∙ sym fits.0 ∙ ap (next s (Work units)) (sym says);
        }

    -- and the exchange is as it should be
    abbrev pub some : State
    some = record core { owed = Some 0 }

    no_more : 0 ≤ 1125899906842624
    no_more = omega arith

    there : after ≡ ended some swap end
    there = then_ended some refl (done some (steady_with core some refl steady no_more) refl)

    pub ended_kept : is_declared phase ≡ true → (pool pool' : Tags) → IsKept core pool programs → IsPoolOf (ended some swap end) pool' → IsKept after pool' programs
    ended_kept declared pool pool' is of =
        let here : IsPoolOf after pool' = subst (λ (x : State). IsPoolOf x pool') (sym there) of in
        record {
          steady = subst IsSteady (sym there) (fit some 0 0 refl no_more (may_end core declared) refl (omega arith)).2;
          free = sym here.free;
          base = here.base;
          size = here.size;
          compiled = is.compiled;
        }

    pub ended_present : (presents : List (FinMap prefix_cmp Entry)) → presents ≡ all_present (ended some swap end) → presents ≡ all_present after
    ended_present presents is = is ∙ ap all_present (sym there)

-- what the reply says
pub says_end : (reply : Reply) (changes : Changes) (end : End) → reply ≡ record (bare Finished) { tags = changes.tags; drops = changes.drops; adds = changes.adds } → changes ≡ record { tags = end.tags; drops = end.drops; adds = end.adds }
    → reply ≡ end_reply end
says_end reply changes end is same = is ∙ ap (λ (x : Changes). record (bare Finished) { tags = x.tags; drops = x.drops; adds = x.adds }) same
