-- Where a participant is told anew, the signatures, the rules and the pool become those of the state afterwards.
use Rattle.std.proofs.Common.{◌≡◌, ℕ, ◌<◌, Bool, true, false, cond, map, take, List, [], ◌∷◌, length, not, sym, ap, ◌∙◌, refl, arith}
use Rattle.std.specs.Prelude.{Option, Some, None}
use Rattle.std.specs.FinMap.{FinMap, get, remove, same_map, values}
use Rattle.advert_queue.specs.Telling.{tags_of}
use Rattle.net_types.proofs.OrderedLemmas.{ordered_rises}
use Rattle.events.proofs.Reached.{declared_pid}
use Rattle.events.specs.After.{next, without_pairs}
use Rattle.events.specs.Fits.{IsAccepted, IsStep, IsTaken, adverts, bare, is_of_job, none_rebuilt}
use Rattle.events.specs.Pending.{pending}
use Rattle.events.specs.Refusals.{if_known, refusal}
use Rattle.events.specs.Sound.{IsSound}
use Rattle.events.specs.State.{State, present, told_to}
use Rattle.events.specs.Tags.{is_live, tags}
use Rattle.events.specs.declared.Entry.{Entry}
use Rattle.events.specs.declared.Event.TheVariants.{Drain, Take}
use Rattle.events.specs.declared.Head.TheVariants.{Fine}
use Rattle.events.specs.declared.Phase.TheVariants.{Running}
use Rattle.events.specs.declared.Reply.{Reply}
use Rattle.exchange_laws.proofs.FullTables.{accepted_lines_fit}
use Rattle.exchange_laws.proofs.ListedPairs.{gone_are_dropped, those_gone}
use Rattle.exchange_laws.proofs.Lists.{clash}
use Rattle.exchange_laws.proofs.ToldAnew.{drains_are_accepted, get_retained, news_are_known, present_are_known, tag_was_live, takes_are_accepted, telling_stays_sound}
use Rattle.exchange_laws.specs.Retagging.{KeptAreLive, TagsArePooled}
use Rattle.exchange_laws.specs.Steady.{IsSteady}
use Rattle.exchange_laws.specs.Telling.{AreKnownTo, told_anew}
use Rattle.fast_path.proofs.CommittedMaps.{get_without_others, get_without_those, without_all}
use Rattle.fast_path.proofs.CommittedPool.{AreTags, is_tag, marked_all_base, marked_all_length, marked_others, marked_those, same_free, taken_in_turn, taken_is_live}
use Rattle.fast_path.proofs.CommittedSignatures.{nothing}
use Rattle.fast_path.proofs.TagOrder.{rising_tags}
use Rattle.fast_path.specs.Committing.{AreTaken, kept_without, marked_all}
use Rattle.fast_path.specs.Planned.{IsPoolOf, is_tag_below}
use Rattle.fast_path.specs.LiveOnly.{AreDead, registered}
use Rattle.fast_path.specs.Pairs.{is_told, untold}
use Rattle.net_types.proofs.OrderLemmas.{tags_total}
use Rattle.net_types.proofs.RisingLemmas.{before, filter-IsRising}
use Rattle.net_types.proofs.TieLemmas.{tag_cmp-IsAntisymmetric, tag_tie}
use Rattle.net_types.specs.Exports.{pid_of}
use Rattle.net_types.specs.Keys.{prefix_cmp, tag_cmp}
use Rattle.net_types.specs.Sets.{IsRising, Member}
use Rattle.net_types.specs.declared.address.Pid.{Pid}
use Rattle.net_types.specs.declared.address.Tag.{Tag}
use Rattle.net_types.specs.declared.route.Part.{Part}
use Rattle.net_types.specs.declared.rule.Pair.{Pair}
use Rattle.next_hop_pool.specs.Free.{Tags, is_taken}
use Rattle.prefix_classes.specs.Classes.{members}
use Rattle.registry.specs.Registered.{ports_of}
use Rattle.exchange_core.proofs.Steps.{in_place, placed, steady_after}
use Rattle.exchange_core.proofs.Taken.{pairs_go, tags_go, tags_unused}
use Rattle.exchange_core.specs.Changing.{IsSender}
use Rattle.exchange_core.specs.Taking.{IsTaker, all_pairs, dead_tags, gone_by, is_dead, line_of, taken_of, told_after}
use Rattle.exchange_core.specs.View.{IsKept}
use Rattle.exchange_core.specs.declared.programs.Programs.{Programs}

without_is : (m : FinMap tag_cmp (List Part)) (ts : List Tag) → kept_without m ts ≡ without_all tag_cmp tags_total tag_tie m ts
without_is m [] = refl
without_is m (t ∷ ts) = without_is (remove m t) ts

module _ (s : State) (who : Pid) (then : FinMap prefix_cmp Entry) (known : AreKnownTo s who then) (dead : List Tag) (are : AreDead s (told_anew s who then) dead) where
  abbrev s1 : State
  s1 = told_anew s who then

  -- ---- signatures

  -- without the dead tags the signatures are those afterwards
  pub kept_then : KeptAreLive s → kept_without s.kept dead ≡ s1.kept
  kept_then kept = same_map tags_total tag_cmp-IsAntisymmetric (kept_without s.kept dead) s1.kept (λ t.
      ap (λ m. get m t) (without_is s.kept dead) ∙ by t (is_live s1 t) (is_live s t) refl refl ∙ sym (get_retained tag_cmp tags_total tag_cmp-IsAntisymmetric s.kept (is_live s1) t))
    where
      by : (t : Tag) (b c : Bool) → is_live s1 t ≡ b → is_live s t ≡ c → get (without_all tag_cmp tags_total tag_tie s.kept dead) t ≡ cond (is_live s1 t) (get s.kept t) None
      by t true c live before = get_without_others tag_cmp tags_total tag_tie dead s.kept t (λ m. clash live (are.each t m).1) ∙ sym (ap (λ b. cond b (get s.kept t) None) live)
      by t false true gone before = get_without_those tag_cmp tags_total tag_tie dead s.kept t (are.all t before gone) ∙ sym (ap (λ b. cond b (get s.kept t) None) gone)
      by t false false gone before =
          get_without_others tag_cmp tags_total tag_tie dead s.kept t (λ m. clash (are.each t m).0 before) ∙ nothing (get s.kept t) (λ there. clash (kept t there) before)
          ∙ sym (ap (λ b. cond b (get s.kept t) None) gone)

  -- ---- the pool

  module _ (pooled : TagsArePooled s) (p : Tags) (pool : IsPoolOf s p) where
    dead_tags_in : AreTags p dead
    dead_tags_in t m = is_tag s p pool t (pooled t (are.each t m).0)

    -- the dead tags, in order, can be given back
    pub given_in_turn : IsRising is_tag_below dead → AreTaken p dead
    given_in_turn rises = taken_in_turn p dead rises dead_tags_in (λ t m. taken_is_live s p pool t (pooled t (are.each t m).0) ∙ (are.each t m).0)

    abbrev given : Tags
    given = marked_all p dead false

    given_is_live : (t : Tag) → Member t (tags s) → is_taken given t ≡ is_live s1 t
    given_is_live t m = by (is_live s1 t) (is_live s t) refl refl
      where
        other : (Member t dead → ⊥) → is_taken given t ≡ is_live s t
        other alive = marked_others p dead false t dead_tags_in (is_tag s p pool t m) alive ∙ taken_is_live s p pool t m

        by : (b c : Bool) → is_live s1 t ≡ b → is_live s t ≡ c → is_taken given t ≡ is_live s1 t
        by true c live before = other (λ k. clash live (are.each t k).1) ∙ tag_was_live s who then known t live ∙ sym live
        by false true gone before = marked_those p dead false t dead_tags_in (are.all t before gone) ∙ sym gone
        by false false gone before = other (λ k. clash (are.each t k).0 before) ∙ before ∙ sym gone

    -- with the dead tags given back the pool is that of the state afterwards
    pub pool_then : IsPoolOf s1 given
    pool_then = record {
      free = same_free s1 given (marked_all_length p dead false ∙ pool.size) given_is_live;
      size = marked_all_length p dead false ∙ pool.size;
      base = marked_all_base p dead false ∙ pool.base;
    }

-- ---- lines by which a participant takes what is pending

-- what a participant is told was known to it
known_then : (s : State) (who : Pid) (limit : Option ℕ) → AreKnownTo s who (told_after s who limit)
known_then s who None = present_are_known s who
known_then s who (Some count) = news_are_known s who (take count (pending s who))

accepted : (s : State) (name : List ℕ) (who : Pid) (limit : Option ℕ) (reply : Reply) → IsSound s → pid_of s.routing name ≡ Some who → IsTaken s (told_anew s who (told_after s who limit)) who (taken_of s who limit) reply
    → (next s (line_of name limit) reply ≡ told_anew s who (told_after s who limit)) × IsAccepted s (line_of name limit) reply
accepted s name who None reply sound declared taken = drains_are_accepted s name who reply sound declared taken
accepted s name who (Some count) reply sound declared taken = takes_are_accepted s name who count reply sound declared taken

-- no such line is a job's
take_own : (name : List ℕ) (limit : Option ℕ) → is_of_job (line_of name limit) ≡ false
take_own name None = refl
take_own name (Some count) = refl

unrefused : (s : State) (name : List ℕ) (who : Pid) (limit : Option ℕ) → IsSender s name who → refusal s (line_of name limit) ≡ None
unrefused s name who None sender = in_place s (Drain name) (placed (Drain name) refl refl s.phase sender.ready) ∙ ap (λ o. if_known o (λ w. None)) sender.known
unrefused s name who (Some count) sender = in_place s (Take name count) (placed (Take name count) refl refl s.phase sender.ready) ∙ ap (λ o. if_known o (λ w. None)) sender.known

-- each participant that sends a line has a place
pub place : (s : State) (who : Pid) (name : List ℕ) → IsSteady s → IsSender s name who → who.0 < length s.told
place s who name steady sender =
    let within : who.0 < length s.routing.participants = declared_pid s.routing name who sender.known in
    let same : length s.told ≡ length s.routing.participants = steady.told in
    omega (arith, within, same)

-- what it is told, and the pairs that go
abbrev pub taking_reply : State → Pid → Option ℕ → Reply
taking_reply s who limit = record (bare Fine) { drops = all_pairs (ports_of (registered s) who) (gone_by s who limit); adverts = adverts s who (taken_of s who limit) }

module _ (s : State) (who : Pid) (steady : IsSteady s) (name : List ℕ) (limit : Option ℕ) (sender : IsSender s name who) where
  abbrev s2 : State
  s2 = told_anew s who (told_after s who limit)

  abbrev drops : List Pair
  drops = all_pairs (ports_of (registered s) who) (gone_by s who limit)

  sound2 : IsSound s2
  sound2 = telling_stays_sound s who (told_after s who limit) steady.sound (known_then s who limit)

  taken : IsTaken s s2 who (taken_of s who limit) (taking_reply s who limit)
  taken = record {
    head = refl;
    tags = refl;
    drops = sym (gone_are_dropped s s2 none_rebuilt drops steady.sound.pairs sound2.pairs (those_gone s s2 drops (pairs_go s who (told_after s who limit) steady.apart (place s who name steady sender))));
    adds = refl;
    adverts = refl;
    asks = refl;
    frames = refl;
  }

  law : (next s (line_of name limit) (taking_reply s who limit) ≡ s2) × IsAccepted s (line_of name limit) (taking_reply s who limit)
  law = accepted s name who limit (taking_reply s who limit) steady.sound sender.known taken

  -- the reply is a step to the state in which the participant was told anew
  pub take_step : IsStep s (line_of name limit) (taking_reply s who limit) s2
  take_step = record {
    fits = accepted_lines_fit s (line_of name limit) (taking_reply s who limit) (unrefused s name who limit sender) law.1;
    next = sym law.0;
  }

  rules_left : without_pairs s.table drops ≡ s2.table
  rules_left = by limit (ap (λ (x : State). x.table) law.0)
    where
      by : (o : Option ℕ) → (next s (line_of name o) (taking_reply s who limit)).table ≡ s2.table → without_pairs s.table drops ≡ s2.table
      by None is = is
      by (Some count) is = is

module _ (s : State) (who : Pid) (limit : Option ℕ) (pool : Tags) {all : List Programs} (kept : IsKept s pool all) (taker : IsTaker s who limit) where
  abbrev entries : FinMap prefix_cmp Entry
  entries = told_after s who limit

  abbrev s3 : State
  s3 = told_anew s who entries

  known : AreKnownTo s who entries
  known = known_then s who limit

  abbrev dead : List Tag
  dead = dead_tags s.tag s.told who.0 (gone_by s who limit)

  pub takers_place : who.0 < length s.told
  takers_place = place s who taker.name kept.steady taker.sender

  -- without the pairs that go the rules are those afterwards
  pub table_then : without_pairs s.table (all_pairs (ports_of (registered s) who) (gone_by s who limit)) ≡ s3.table
  table_then = rules_left s who kept.steady taker.name limit taker.sender

  are_dead : AreDead s s3 dead
  are_dead = tags_go s who entries kept.steady.apart takers_place

  -- no prefix has one of the dead tags
  pub dead_unused : (t : Tag) → Member t dead → members s.tag t ≡ 0
  dead_unused = tags_unused s who entries kept.steady.apart takers_place

  -- without the dead tags the signatures are those afterwards
  pub signatures_then : kept_without s.kept dead ≡ s3.kept
  signatures_then = kept_then s who entries known dead are_dead kept.steady.kept

  of_pool : IsPoolOf s pool
  of_pool = record { free = sym kept.free; size = kept.size; base = kept.base }

  dead_rise : IsRising is_tag_below dead
  dead_rise =
      filter-IsRising is_tag_below (is_dead s.tag s.told who.0) (gone_by s who limit)
      (filter-IsRising is_tag_below (λ u. not (is_told (entries ∷ []) u)) (untold (present s who ∷ []) (tags_of (told_to s who)))
      (filter-IsRising is_tag_below (λ u. not (is_told (present s who ∷ []) u)) (tags_of (told_to s who))
      (rising_tags (tags_of (told_to s who)) (ordered_rises tag_cmp tags_total tag_tie (map (λ (e : Entry). e.tag) (values (told_to s who)))))))

  -- the dead tags can be given back
  pub given_back : AreTaken pool dead
  given_back = given_in_turn s who entries known dead are_dead kept.steady.pooled pool of_pool dead_rise

  steady_then : IsSteady s3
  steady_then =
      steady_after s (line_of taker.name limit) (taking_reply s who limit) s3 kept.steady taker.formed (take_own taker.name limit) (take_step s who kept.steady taker.name limit taker.sender)

  -- what is kept holds of the state afterwards
  pub telling_kept : IsKept s3 (marked_all pool dead false) all
  telling_kept =
      let of = pool_then s who entries known dead are_dead kept.steady.pooled pool of_pool in record {
        steady = steady_then;
        free = sym of.free;
        base = of.base;
        size = of.size;
        compiled = kept.compiled;
      }

-- A state that differs from one only in what a participant is told, and in what goes with it, is the one in which it was
-- told anew.
pub told_state : {before after s : State} (who : Pid) (then : FinMap prefix_cmp Entry) → before ≡ s
    → after ≡ record before { phase = Running; capacity = after.capacity; tag = after.tag; kept = after.kept; told = after.told; table = after.table }
    → after.capacity ≡ s.capacity → after.tag ≡ s.tag → after.kept ≡ (told_anew s who then).kept → after.told ≡ (told_anew s who then).told → after.table ≡ (told_anew s who then).table
    → after ≡ told_anew s who then
told_state {before} {after} {s} who then is other capacity tag kept told table = other ∙ (λ i. record (is i) { phase = Running; capacity = capacity i; tag = tag i; kept = kept i; told = told i; table = table i })
