-- A line that builds no rules gives no prefix another tag, keeps the signatures of tags that prefixes have, and adds no rules.
use Rattle.std.proofs.Common.{◌≡◌, ℕ, Bool, true, false, cond, List, [], ◌∷◌, map, sym, ap, subst, ◌∙◌, refl, inr}
use Rattle.std.specs.Prelude.{Option, Some, None, MatchOption, is_some, take}
use Rattle.std.specs.FinMap.{FinMap, get, get-remove, keys, remove}
use Rattle.std.specs.Ordering.{eq_by_cmp}
use Rattle.events.specs.After.{accepted, after, next, next_by, put_flows, rules_put, running, settled, with_port, with_told, without_pairs}
use Rattle.events.specs.Fits.{Fits, FitsBy, IsAccepted, IsAnswer, IsSent, IsTagged, IsTaken, Passes, asks_for, bare, by_table, is_building, is_of_job, responder_reply}
use Rattle.net_types.specs.Frames.{destination}
use Rattle.events.specs.Pending.{pending, with_all_news}
use Rattle.events.specs.Refusals.{refusal}
use Rattle.events.specs.Resolving.{is_pool_request, is_resolved, pool_mac, tag_address, unresolved, with_answer, with_resolved}
use Rattle.events.specs.State.{State, port_of, present, told_to}
use Rattle.events.specs.Tags.{is_live}
use Rattle.events.specs.declared.Entry.{Entry}
use Rattle.events.specs.declared.Event.{Event}
use Rattle.events.specs.declared.Event.TheVariants.{Bad, Exchange, Participant as DeclaresParticipant, Port as DeclaresPort, Update, Down, Export, Outbound, Inbound, Take, Drain, Arp, Resolve, Packet, Frame, Recompile, Work, Table}
use Rattle.events.specs.declared.Flow.{Flow}
use Rattle.events.specs.declared.Head.{Head}
use Rattle.events.specs.declared.Head.TheVariants.{Fine, Working, Finished, Unrouted, Unresolved, Silent, Refused}
use Rattle.events.specs.declared.Refusal.{Refusal}
use Rattle.events.specs.declared.Reply.{Reply}
use Rattle.exchange_laws.proofs.Lists.{TableOf, clash}
use Rattle.exchange_laws.proofs.TagsAfter.{live_of}
use Rattle.exchange_laws.proofs.ToldAnew.{get_retained}
use Rattle.fast_path.proofs.PortsAndTags.{prefix_with}
use Rattle.job_laws.specs.Steps.{UnitsStay}
use Rattle.job_upkeep.proofs.Tagged.{some_with, without_none}
use Rattle.net_types.proofs.OrderLemmas.{pairs_total, tags_total}
use Rattle.net_types.proofs.TieLemmas.{tag_cmp-IsAntisymmetric}
use Rattle.net_types.specs.Arp.{arp_reply, asked_ip, asker_ip, asker_mac}
use Rattle.net_types.specs.Exports.{pid_of}
use Rattle.net_types.specs.Keys.{pair_cmp, prefix_cmp, tag_cmp}
use Rattle.net_types.specs.Routes.{longest_of}
use Rattle.net_types.specs.declared.address.Pid.{Pid}
use Rattle.net_types.specs.declared.address.Tag.{Tag}
use Rattle.net_types.specs.declared.prefix.Prefix.{Prefix}
use Rattle.net_types.specs.declared.route.PortInfo.{PortInfo}
use Rattle.net_types.specs.declared.rule.Pair.{Pair}
use Rattle.prefix_classes.specs.Classes.{members}
use Rattle.recompile.specs.Changing.{IsChange}
use Rattle.recompile.specs.Covering.{AreFew}
use Rattle.recompile.specs.Setting.{setting_of}
use Rattle.run_laws.proofs.Known.{answer_is, known_holds, resolved_is}

-- prefixes have the same tags, and these the same signatures
pub record Keeps (s s1 : State) : Type 0 where
  pub tag : s1.tag ≡ s.tag
  pub kept : (p : Prefix) (t : Tag) → get s.tag p ≡ Some t → get s1.kept t ≡ get s.kept t

same : (s s1 : State) → s1.tag ≡ s.tag → s1.kept ≡ s.kept → Keeps s s1
same s s1 tag kept = record { tag = tag; kept = λ p t at. ap (λ m. get m t) kept }

-- ---- the state after a line

told_keeps : (s : State) (who : Pid) (entries : FinMap prefix_cmp Entry) → Keeps s (settled (running (with_told s who entries)))
told_keeps s who entries = record {
  tag = refl;
  kept = λ p t at.
      get_retained tag_cmp tags_total tag_cmp-IsAntisymmetric s.kept (is_live (running (with_told s who entries))) t
      ∙ ap (λ b. cond b (get s.kept t) None) (live_of (running (with_told s who entries)) p t at);
}

keeps_after : (s : State) (e : Event) → is_of_job e ≡ false → is_building e ≡ false → Keeps s (after s e)
keeps_after s Bad other quiet = same s s refl refl
keeps_after s (Exchange base size capacity) other quiet = same s (after s (Exchange base size capacity)) refl refl
keeps_after s (DeclaresParticipant name asn id) other quiet = same s (after s (DeclaresParticipant name asn id)) refl refl
keeps_after s (DeclaresPort name number ip mac) other quiet =
    known_holds (Keeps s) s (pid_of s.routing name) (λ who. with_port s (record { owner = who; number = number; ip = ip; mac = mac })) (same s s refl refl)
    (λ who. same s (with_port s (record { owner = who; number = number; ip = ip; mac = mac })) refl refl)
keeps_after s (Update name bytes) other quiet = absurd (cc)
keeps_after s (Down name) other quiet = absurd (cc)
keeps_after s (Export name text) other quiet = absurd (cc)
keeps_after s (Outbound name text) other quiet = absurd (cc)
keeps_after s (Inbound name text) other quiet = absurd (cc)
keeps_after s (Take name count) other quiet =
    let entries : Pid → FinMap prefix_cmp Entry = λ who. with_all_news (present s who) (told_to s who) (take count (pending s who)) in
    known_holds (Keeps s) s (pid_of s.routing name) (λ who. settled (running (with_told s who (entries who)))) (same s s refl refl) (λ who. told_keeps s who (entries who))
keeps_after s (Drain name) other quiet = known_holds (Keeps s) s (pid_of s.routing name) (λ who. settled (running (with_told s who (present s who)))) (same s s refl refl) (λ who. told_keeps s who (present s who))
keeps_after s (Arp n bytes) other quiet = known_holds (Keeps s) s (port_of s n) (λ q. running (with_answer s q bytes)) (same s s refl refl) (λ q. subst (λ x. Keeps s (running x)) (sym (answer_is s q bytes)) (same s _ refl refl))
keeps_after s (Resolve n) other quiet = known_holds (Keeps s) s (port_of s n) (λ q. running (with_resolved s n (unresolved s q))) (same s s refl refl) (λ q. subst (λ x. Keeps s (running x)) (sym (resolved_is s n (unresolved s q))) (same s _ refl refl))
keeps_after s (Packet n bytes) other quiet = same s (running s) refl refl
keeps_after s (Frame n bytes) other quiet = same s (running s) refl refl
keeps_after s Recompile other quiet = absurd (cc)
keeps_after s (Work units) other quiet = absurd (cc)
keeps_after s Table other quiet = same s (running s) refl refl

-- ---- the rules that its reply puts in

abbrev puts : Reply → List Flow
puts x = x.adds

module _ (s : State) (r : Reply) where
  tagged_none : (q : PortInfo) (bytes : List ℕ) (p : Prefix) (told : Entry) (b : Bool) → IsTagged b s q bytes p told r → r.adds ≡ []
  tagged_none q bytes p told true is = ap (λ (x : Reply). x.adds) is.by_table
  tagged_none q bytes p told false is = ap (λ (x : Reply). x.adds) is

  sent_none : (q : PortInfo) (bytes : List ℕ) (longest : Option Prefix) → IsSent s q bytes r longest → r.adds ≡ []
  sent_none q bytes None is = ap (λ (x : Reply). x.adds) is
  sent_none q bytes (Some p) is = by (get (told_to s q.owner) p) is
    where
      by : (o : Option Entry) → MatchOption o ⊥ (λ told. IsTagged (is_resolved s q.number (tag_address s told.tag)) s q bytes p told r) → r.adds ≡ []
      by None never = absurd never
      by (Some told) tagged = tagged_none q bytes p told (is_resolved s q.number (tag_address s told.tag)) tagged

  where_known : {X : Type 0} (k : Option X) (P : X → Type 0) → ((x : X) → P x → r.adds ≡ []) → MatchOption k ⊥ P → r.adds ≡ []
  where_known None P then never = absurd never
  where_known (Some x) P then is = then x is

  arp_none : (bytes : List ℕ) → r ≡ responder_reply s bytes → r.adds ≡ []
  arp_none bytes is = ap puts is ∙ by (is_pool_request s bytes)
    where
      by : (b : Bool) → puts (cond b (record (bare Fine) { asks = record { request = None; reply = arp_reply (asker_mac bytes) (asker_ip bytes) (asked_ip bytes) (pool_mac s (asked_ip bytes)) } ∷ [] }) (bare Silent)) ≡ []
      by true = refl
      by false = refl

  answer_none : (e : Event) (s1 : State) → is_of_job e ≡ false → is_building e ≡ false → IsAnswer s e r s1 → rules_put e r ≡ []
  answer_none Bad s1 other quiet is = absurd is
  answer_none (Exchange base size capacity) s1 other quiet is = ap (λ (x : Reply). x.adds) is
  answer_none (DeclaresParticipant name asn id) s1 other quiet is = ap (λ (x : Reply). x.adds) is
  answer_none (DeclaresPort name number ip mac) s1 other quiet is = ap (λ (x : Reply). x.adds) is
  answer_none (Update name bytes) s1 other quiet is = absurd (cc)
  answer_none (Down name) s1 other quiet is = absurd (cc)
  answer_none (Export name text) s1 other quiet is = absurd (cc)
  answer_none (Outbound name text) s1 other quiet is = absurd (cc)
  answer_none (Inbound name text) s1 other quiet is = absurd (cc)
  answer_none (Take name count) s1 other quiet is = where_known (pid_of s.routing name) (λ who. IsTaken s s1 who (take count (pending s who)) r) (λ who taken. taken.adds) is
  answer_none (Drain name) s1 other quiet is = where_known (pid_of s.routing name) (λ who. IsTaken s s1 who (pending s who) r) (λ who taken. taken.adds) is
  answer_none (Arp n bytes) s1 other quiet is = arp_none bytes is
  answer_none (Resolve n) s1 other quiet is = where_known (port_of s n) (λ q. r ≡ record (bare Fine) { asks = map (asks_for s q) (unresolved s q) }) (λ q asks. ap (λ (x : Reply). x.adds) asks) is
  answer_none (Packet n bytes) s1 other quiet is = where_known (port_of s n) (λ q. IsSent s q bytes r (longest_of (keys (told_to s q.owner)) (destination bytes))) (λ q sent. sent_none q bytes (longest_of (keys (told_to s q.owner)) (destination bytes)) sent) is
  answer_none (Frame n bytes) s1 other quiet is = where_known (port_of s n) (λ q. r ≡ record (bare Fine) { frames = by_table s q bytes }) (λ q frames. ap (λ (x : Reply). x.adds) frames) is
  answer_none Recompile s1 other quiet is = absurd (cc)
  answer_none (Work units) s1 other quiet is = absurd (cc)
  answer_none Table s1 other quiet is = refl

  refused_none : (e : Event) → r.adds ≡ [] → rules_put e r ≡ []
  refused_none Bad is = is
  refused_none (Exchange base size capacity) is = is
  refused_none (DeclaresParticipant name asn id) is = is
  refused_none (DeclaresPort name number ip mac) is = is
  refused_none (Update name bytes) is = is
  refused_none (Down name) is = is
  refused_none (Export name text) is = is
  refused_none (Outbound name text) is = is
  refused_none (Inbound name text) is = is
  refused_none (Take name count) is = is
  refused_none (Drain name) is = is
  refused_none (Arp n bytes) is = is
  refused_none (Resolve n) is = is
  refused_none (Packet n bytes) is = is
  refused_none (Frame n bytes) is = is
  refused_none Recompile is = is
  refused_none (Work units) is = is
  refused_none Table is = refl

  fits_none : (e : Event) → is_of_job e ≡ false → is_building e ≡ false → Fits s e r → rules_put e r ≡ []
  fits_none e other quiet fits = by (refusal s e) fits
    where
      passed : (b : Bool) → b ≡ false → Passes b s e r → IsAccepted s e r
      passed true never is = absurd (cc)
      passed false quiet is = is

      by : (o : Option Refusal) → FitsBy o s e r → rules_put e r ≡ []
      by (Some why) is = refused_none e (ap (λ (x : Reply). x.adds) is)
      by None is = answer_none e (next s e r) other quiet (passed (is_building e) quiet is).answer

-- what is left of a table is as it was
left_same : (ks : List Pair) (m : TableOf) (pair : Pair) → is_some (get (without_pairs m ks) pair) ≡ true → get (without_pairs m ks) pair ≡ get m pair
left_same [] m pair there = refl
left_same (k ∷ ks) m pair there = by (eq_by_cmp pair_cmp pair k) refl (left_same ks (remove m k) pair there ∙ get-remove pairs_total m k pair)
  where
    by : (b : Bool) → eq_by_cmp pair_cmp pair k ≡ b → get (without_pairs (remove m k) ks) pair ≡ cond (eq_by_cmp pair_cmp pair k) None (get m pair) → get (without_pairs (remove m k) ks) pair ≡ get m pair
    by true is rest = let none = ap is_some (rest ∙ ap (λ b. cond b None (get m pair)) is) in absurd (clash there none)
    by false is rest = rest ∙ ap (λ b. cond b None (get m pair)) is

-- ---- the line

-- so it is of a state that it leaves
pub record Stays (s s1 : State) : Type 0 where
  pub keeps : Keeps s s1
  pub table : (pair : Pair) → is_some (get s1.table pair) ≡ true → get s1.table pair ≡ get s.table pair

pub quiet_stays : (s : State) (e : Event) (r : Reply) → is_of_job e ≡ false → is_building e ≡ false → Fits s e r → Stays s (next s e r)
quiet_stays s e r other quiet fits = by r.head
  where
    unchanged : Stays s s
    unchanged = record { keeps = same s s refl refl; table = λ pair there. refl }

    passed : Stays s (accepted s e r)
    passed = record {
      keeps = let k = keeps_after s e other quiet in record { tag = k.tag; kept = k.kept };
      table = λ pair there.
          let is : put_flows (without_pairs s.table r.drops) (rules_put e r) ≡ without_pairs s.table r.drops = ap (put_flows (without_pairs s.table r.drops)) (fits_none s r e other quiet fits) in
          ap (λ m. get m pair) is ∙ left_same r.drops s.table pair (subst (λ m. is_some (get m pair) ≡ true) is there);
    }

    by : (h : Head) → Stays s (next_by h s e r)
    by (Refused why) = unchanged
    by Fine = passed
    by (Working units) = passed
    by Finished = passed
    by Unrouted = passed
    by (Unresolved ip) = passed
    by Silent = passed

pub stays_change : (s s1 : State) → Stays s s1 → AreFew (setting_of s1) → IsChange (setting_of s) (setting_of s1) [] [] []
stays_change s s1 stays few = record {
  new = λ t none some. absurd (clash (some_with s1 t some) (without_none s1 t (ap (λ m. members m t) stays.keeps.tag ∙ none)));
  gone = λ t m. absurd m;
  lost = λ t some none. absurd (clash (some_with s t some) (without_none s t (ap (λ m. members m t) (sym stays.keeps.tag) ∙ none)));
  kept = λ t before after. let with = prefix_with s t (some_with s t before) in stays.keeps.kept with.prefix t with.tagged;
  table = λ pair there. inr (stays.table pair there);
  few = few;
}

-- ---- what is owed

pub quiet_owed : UnitsStay → (s : State) (e : Event) (r : Reply) → is_of_job e ≡ false → is_building e ≡ false → (next s e r).owed ≡ s.owed
quiet_owed units s e r other quiet = by r.head
  where
    by : (h : Head) → (next_by h s e r).owed ≡ s.owed
    by (Refused why) = refl
    by Fine = units s e other quiet
    by (Working n) = units s e other quiet
    by Finished = units s e other quiet
    by Unrouted = units s e other quiet
    by (Unresolved ip) = units s e other quiet
    by Silent = units s e other quiet
