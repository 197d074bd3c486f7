-- After another policy a job that begins anew covers the state, and owes what the state says.
use Rattle.std.proofs.Common.{◌≡◌, ℕ, ◌+◌, ◌≤◌, ◌<◌, Bool, true, false, ◌&&◌, ◌||◌, not, List, length, filter, sym, ap, subst, ◌∙◌, refl, arith, inl, inr}
use Rattle.std.specs.Prelude.{Option, Some, None, Result, Ok, Err, is_some}
use Rattle.std.specs.FinMap.{contains_key-keys, entries, get, keys}
use Rattle.std.specs.Option.{option_map}
use Rattle.std.proofs.lemmas.Bool.{and_parts, false_from_ne_true}
use Rattle.events.specs.After.{after, all_units, next, received_by, sent_by, with_known}
use Rattle.events.specs.Fits.{is_building}
use Rattle.events.specs.Forms.{IsWellFormed}
use Rattle.events.specs.State.{State}
use Rattle.events.specs.Tags.{capped, carried, is_live_pair, live_pairs, pairs, retagged}
use Rattle.events.specs.declared.Event.{Event}
use Rattle.events.specs.declared.Event.TheVariants.{Bad, Exchange, Participant as DeclaresParticipant, Port as DeclaresPort, Update, Down, Export, Outbound, Inbound, Take, Drain, Arp, Resolve, Packet, Frame, Recompile, Work, Table}
use Rattle.exchange_laws.proofs.LineSteps.{building_other}
use Rattle.exchange_laws.proofs.Counted.{live_Member, live_rise}
use Rattle.exchange_laws.proofs.Lists.{clash, key_Member}
use Rattle.exchange_laws.proofs.TagsAfter.{carried_have_tags, tags_stay_pooled}
use Rattle.exchange_laws.specs.Editing.{IsEdit}
use Rattle.exchange_laws.specs.Listed.{goes, is_pair_before}
use Rattle.exchange_laws.specs.Rerouting.{is_rerouting}
use Rattle.exchange_laws.specs.Rules.{is_new}
use Rattle.exchange_laws.specs.Steady.{IsSteady, StepsStaySteady}
use Rattle.fast_path.proofs.CommittedReplies.{is_table}
use Rattle.fast_path.specs.Carried.{IsPlanned, PlansFitLines, plan_reply}
use Rattle.fast_path.specs.Pairs.{is_among, staying}
use Rattle.fast_path.specs.Plans.{planned}
use Rattle.fast_path.specs.declared.planned.Plan.{Plan}
use Rattle.grammar.specs.TextReading.{Fault as Misread}
use Rattle.job_laws.proofs.OtherLines.{after_but}
use Rattle.job_laws.specs.Jobs.{without_job}
use Rattle.job_laws.specs.Steps.{JobsLeaveLines, UnitsStartAnew}
use Rattle.job_upkeep.proofs.Carried.{entries_are, entries_carried}
use Rattle.job_upkeep.proofs.QuietLines.{setting_without}
use Rattle.job_upkeep.proofs.Listed.{joined_once}
use Rattle.job_upkeep.proofs.Planned.{had_or_fresh}
use Rattle.job_upkeep.proofs.Reroutings.{few_planned, refused_alike}
use Rattle.job_upkeep.specs.Upkeep.{HasJob, PoliciesKeepJobs, fresh_of, pairs_after}
use Rattle.net_types.proofs.OrderLemmas.{pairs_total}
use Rattle.net_types.proofs.OrderedLemmas.{any_member, member_any, ordered_same}
use Rattle.net_types.proofs.RisingLemmas.{Member-filter, before_itself, filter-IsRising, filter-Member, keys-IsRising, rising_once}
use Rattle.net_types.proofs.SetLemmas.{Member-append_cases, Member-append_left, Member-append_right}
use Rattle.net_types.proofs.WidthLemmas.{no_longer}
use Rattle.net_types.specs.Exports.{Routing, pid_of}
use Rattle.net_types.specs.Keys.{pair_cmp}
use Rattle.net_types.specs.Policies.{Policy}
use Rattle.net_types.specs.PolicyReading.{policy_of_text}
use Rattle.net_types.specs.Sets.{HasNoRepeats, IsRising, Member}
use Rattle.net_types.specs.declared.address.Pid.{Pid}
use Rattle.net_types.specs.declared.rule.Pair.{Pair}
use Rattle.prefix_classes.specs.Classes.{members}
use Rattle.recompile.specs.Changing.{CoversListed, IsListed}
use Rattle.recompile.specs.Covering.{AreFew, Covers}
use Rattle.recompile.specs.Setting.{setting_of}
use Rattle.recompile.specs.Underway.{Underway}
use Rattle.net_types.proofs.TieLemmas.{pair_tie}

-- ---- the carried prefixes stay

known_carried : (s : State) (k : Option Pid) (f : Pid → State) → ((who : Pid) → carried (f who).routing ≡ carried s.routing) → carried (with_known s k f).routing ≡ carried s.routing
known_carried s None f is = refl
known_carried s (Some who) f is = is who

sent_carried : (s : State) (who : Pid) (text : List ℕ) (read : Result Policy Misread) → carried (sent_by s who text read).routing ≡ carried s.routing
sent_carried s who text (Ok p) = refl
sent_carried s who text (Err fault) = refl

received_carried : (s : State) (who : Pid) (text : List ℕ) (read : Result Policy Misread) → carried (received_by s who text read).routing ≡ carried s.routing
received_carried s who text (Ok p) = refl
received_carried s who text (Err fault) = refl

policy_carried : (s : State) (e : Event) → is_building e ≡ true → is_rerouting e ≡ false → carried (after s e).routing ≡ carried s.routing
policy_carried s (Outbound name text) building other = known_carried s (pid_of s.routing name) (λ who. sent_by s who text (policy_of_text text)) (λ who. sent_carried s who text (policy_of_text text))
policy_carried s (Inbound name text) building other = known_carried s (pid_of s.routing name) (λ who. received_by s who text (policy_of_text text)) (λ who. received_carried s who text (policy_of_text text))
policy_carried s (Update name bytes) building other = absurd (cc)
policy_carried s (Down name) building other = absurd (cc)
policy_carried s (Export name text) building other = absurd (cc)
policy_carried s Bad building other = absurd (cc)
policy_carried s (Exchange base size capacity) building other = absurd (cc)
policy_carried s (DeclaresParticipant name asn id) building other = absurd (cc)
policy_carried s (DeclaresPort name number ip mac) building other = absurd (cc)
policy_carried s (Take name count) building other = absurd (cc)
policy_carried s (Drain name) building other = absurd (cc)
policy_carried s (Arp n bytes) building other = absurd (cc)
policy_carried s (Resolve n) building other = absurd (cc)
policy_carried s (Packet n bytes) building other = absurd (cc)
policy_carried s (Frame n bytes) building other = absurd (cc)
policy_carried s Recompile building other = absurd (cc)
policy_carried s (Work units) building other = absurd (cc)
policy_carried s Table building other = absurd (cc)

-- ---- the pairs of the table after the line

parts_of : (a b : Bool) → (not a || b) ≡ false → (a ≡ true) × (b ≡ false)
parts_of true b e = (refl, e)
parts_of false b e = absurd (cc)

new_then : (a b : Bool) → a ≡ true → (not a || b) ≡ true → b ≡ true
new_then true b live e = e
new_then false b live e = absurd (cc)

module _ (s : State) (e : Event) (s0 : State) (r : Routing) (is_rebuilt : Pair → Bool) (plan : Plan) (edit : IsEdit s e s0 r is_rebuilt) (is : IsPlanned s0 r is_rebuilt plan) where
  abbrev s1 : State
  s1 = retagged s0 r

  abbrev stay : List Pair
  stay = staying plan.drops (keys s.table)

  abbrev all : List Pair
  all = pairs_after s plan

  came : (pair : Pair) → Member pair plan.added → (is_live_pair s1 pair ≡ true) × (is_new s0 is_rebuilt pair ≡ true)
  came pair m = and_parts (is_live_pair s1 pair) (is_new s0 is_rebuilt pair) (is.planned.new.each pair (subst (Member pair) is.planned.added m))

  -- a pair of the table was live, and doesn't go
  stayed : (pair : Pair) → Member pair stay → (is_live_pair s0 pair ≡ true) × (goes s0 s1 is_rebuilt pair ≡ false)
  stayed pair m =
      let left = filter-Member (λ q. not (is_among plan.drops q)) (keys s.table) pair m in
      let there : is_some (get s0.table pair) ≡ true = ap (λ t. is_some (get t pair)) edit.table ∙ contains_key-keys s.table pair ∙ member_any pair_cmp pairs_total pair_tie pair (keys s.table) left.stands in (
        sym (is.base.tagged.pairs pair) ∙ there,
        false_from_ne_true (goes s0 s1 is_rebuilt pair) (λ gone. clash left.passes (ap not (member_any pair_cmp pairs_total pair_tie pair plan.drops (is.planned.gone.all pair gone)))),
      )

  pub live_listed : (pair : Pair) → is_live_pair s1 pair ≡ true → Member pair all
  live_listed pair live = by (is_new s0 is_rebuilt pair) refl
    where
      by : (b : Bool) → is_new s0 is_rebuilt pair ≡ b → Member pair all
      by true fresh = Member-append_right stay plan.added pair (subst (Member pair) (sym is.planned.added) (is.planned.new.all pair (λ i. live i && fresh i)))
      by false same =
          let parts = parts_of (is_live_pair s0 pair) (is_rebuilt pair) same in
          let there : is_some (get s0.table pair) ≡ true = is.base.tagged.pairs pair ∙ parts.0 in
          let key : Member pair (keys s.table) = key_Member pair_cmp pairs_total pair_tie s.table pair (sym (ap (λ t. is_some (get t pair)) edit.table) ∙ there) in
          let stays : goes s0 s1 is_rebuilt pair ≡ false = λ i. parts.0 i && (not (live i) || parts.1 i) in
          let apart : is_among plan.drops pair ≡ false = false_from_ne_true (is_among plan.drops pair) (λ among. clash (is.planned.gone.each pair (any_member pair_cmp pairs_total pair_tie pair plan.drops among)) stays) in
          Member-append_left stay plan.added pair (Member-filter (λ q. not (is_among plan.drops q)) (keys s.table) pair key (ap not apart))

  listed_live : (pair : Pair) → Member pair all → is_live_pair s1 pair ≡ true
  listed_live pair m = elim (Member-append_cases stay plan.added pair m) [
    | inl left ↦ let is_left = stayed pair left in still (is_live_pair s1 pair) (is_live_pair s0 pair) (is_rebuilt pair) is_left.0 is_left.1
    | inr new ↦ (came pair new).0
  ]
    where
      still : (a b c : Bool) → b ≡ true → (b && (not a || c)) ≡ false → a ≡ true
      still true b c live stays = refl
      still false true c live stays = absurd (cc)
      still false false c live stays = absurd (cc)

  listed_once : HasNoRepeats all
  listed_once = joined_once stay plan.added
      (rising_once is_pair_before (before_itself pair_cmp pairs_total) stay (filter-IsRising is_pair_before (λ q. not (is_among plan.drops q)) (keys s.table) (keys-IsRising pair_cmp s.table)))
      (rising_once is_pair_before (before_itself pair_cmp pairs_total) plan.added (subst (λ ks. IsRising is_pair_before ks) (sym is.planned.added) is.planned.new.rising))
      (λ pair left new.
      let is_left = stayed pair left in
      let again = new_then (is_live_pair s0 pair) (is_rebuilt pair) is_left.0 (came pair new).1 in
      clash (goes_again (is_live_pair s0 pair) (is_live_pair s1 pair) (is_rebuilt pair) is_left.0 again) is_left.1)
    where
      goes_again : (a b c : Bool) → a ≡ true → c ≡ true → (a && (not b || c)) ≡ true
      goes_again true true true live again = refl
      goes_again true false true live again = refl
      goes_again true b false live again = absurd (cc)
      goes_again false b c live again = absurd (cc)

  pub listed_count : length all ≡ length (live_pairs s1)
  listed_count =
      let most = no_longer all (live_pairs s1) listed_once (λ pair m. live_Member s1 (tags_stay_pooled s0 r is.base.pooled) pair (listed_live pair m)) in
      let least = no_longer (live_pairs s1) all (rising_once is_pair_before (before_itself pair_cmp pairs_total) (live_pairs s1) (live_rise s1)) (λ pair m. live_listed pair (filter-Member (is_live_pair s1) (pairs s1) pair ((ordered_same pair_cmp pairs_total pair_tie (filter (is_live_pair s1) (pairs s1))).onto pair m)).passes) in
      omega (arith, most, least)

-- ---- the line

module _ (steps : StepsStaySteady) (fit : PlansFitLines) (leave : JobsLeaveLines) (units : UnitsStartAnew) (s : State) (e : Event) (s0 : State) (r : Routing) (is_rebuilt : Pair → Bool) (plan : Plan)
    (steady : IsSteady (without_job s)) (formed : IsWellFormed e) (other : is_rerouting e ≡ false) (edit : IsEdit (without_job s) e s0 r is_rebuilt) (made : IsPlanned s0 r is_rebuilt plan) where
  abbrev c : State
  c = without_job s

  abbrev s2 : State
  s2 = planned s0 r plan

  carries : carried r ≡ carried s.routing
  carries = sym (ap (λ (x : State). carried x.routing) edit.leaves) ∙ policy_carried c e edit.building other

  prefixes : length (entries s2.tag) ≡ length (entries s.tag)
  prefixes = entries_are s2.tag r (carried_have_tags s0 r made.planned.enough) ∙ ap length carries ∙ sym (entries_carried c steady.sound)

  equal_most : (m n : ℕ) → m ≡ n → m ≤ n
  equal_most m n same = omega (arith, same)

  few : AreFew (setting_of s2)
  few = few_planned steps fit c e s0 r is_rebuilt plan steady formed edit made

  listed : IsListed (setting_of s2) s.tag (fresh_of plan) (pairs_after c plan)
  listed = record {
    prefixes = equal_most (length (entries s2.tag)) (length (entries s.tag)) prefixes;
    tags = λ t now. elim (had_or_fresh s0 r is_rebuilt plan made.base made.alike made.planned t now) [
      | inl had ↦ inl (subst (λ m. 0 < members m t) edit.tag had)
      | inr fresh ↦ inr fresh
    ];
    pairs = λ pair there. live_listed c e s0 r is_rebuilt plan edit made pair (sym ((is_table s0 r is_rebuilt plan made.base made.alike made.planned).pairs pair) ∙ there);
    few = few;
  }

  -- all units of the state that the line leaves
  all_are : all_units (after s e) ≡ capped (length (entries s.tag) + length (pairs_after c plan))
  all_are =
      ap all_units (sym (after_but s None e (building_other e edit.building))) ∙ ap all_units edit.leaves
      ∙ ap capped (ap (λ ps. length ps + length (live_pairs (retagged s0 r))) carries
      ∙ ap (λ n. n + length (live_pairs (retagged s0 r))) (sym (entries_carried c steady.sound))
      ∙ ap (λ n. length (entries s.tag) + n) (sym (listed_count c e s0 r is_rebuilt plan edit made)))

  begun : (old new : Underway) → CoversListed s.tag (fresh_of plan) (pairs_after c plan) new → new.owed ≡ capped (length (entries s.tag) + length (pairs_after c plan)) → HasJob s (Some old) → HasJob (next s e (plan_reply plan)) (Some new)
  begun old new covers owes has = (
    units s e (sym (refused_alike s e edit.building) ∙ edit.passes) edit.building other ∙ ap (option_map (λ n. all_units (after s e))) has.0 ∙ ap Some (all_are ∙ sym owes),
    subst (λ x. Covers x new) (sym (setting_without leave s e (plan_reply plan) (building_other e edit.building) ∙ ap setting_of (fit c e s0 r is_rebuilt plan made edit).0)) (covers (setting_of s2) listed),
  )

pub anew : StepsStaySteady → PlansFitLines → JobsLeaveLines → UnitsStartAnew → PoliciesKeepJobs
anew steps fit leave units s e s0 r is_rebuilt plan old new steady formed other edit made covers owes has =
    begun steps fit leave units s e s0 r is_rebuilt plan steady formed other edit made old new covers owes has
