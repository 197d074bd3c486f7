-- What holds of a steady state, whatever its table and its policies: any line that no refusal stops leaves it so.
use Rattle.events.proofs.Reached.{set_length}
use Rattle.std.proofs.Common.{◌≡◌, ◌⊎◌, ℕ, ◌+◌, ◌≤◌, ◌<◌, Bool, true, false, cond, ◌||◌, List, [], ◌∷◌, ◌++◌, length, sym, ap, subst, ◌∙◌, refl, arith, inl, inr}
use Rattle.std.specs.Prelude.{Option, Some, None, codes, is_some, slice_set}
use Rattle.std.specs.FinMap.{FinMap, empty, get, get-empty, values}
use Rattle.std.specs.List.{list_any}
use Rattle.std.specs.Option.{option_map}
use Rattle.std.proofs.lemmas.Bool.{or_right}
use Rattle.std.proofs.lemmas.List.{length-append}
use Rattle.events.specs.After.{all_units, restarted, running, with_named, with_outbound, with_participant}
use Rattle.events.specs.Sound.{HopsAreOwn}
use Rattle.events.specs.State.{State, port_of}
use Rattle.events.specs.Tags.{capped, is_live, more_units, retagged, same_tag, tells}
use Rattle.events.specs.declared.Entry.{Entry}
use Rattle.events.specs.declared.Event.{Event}
use Rattle.events.specs.declared.Phase.TheVariants.{Start, Declaring, Running}
use Rattle.exchange_laws.proofs.Bases.{kept_there, kept_whole}
use Rattle.exchange_laws.proofs.LineSteps.{AllRise, QuietStep, Step, participant, pool, port, quiet, receives, receiving, resolved, resolving, routes, sending, sends, told, told_so}
use Rattle.exchange_laws.proofs.Lists.{TableOf, clash}
use Rattle.exchange_laws.proofs.NewStates.{no_live, no_route, nobody, nothing_told}
use Rattle.exchange_laws.proofs.OwnHops.{own_hop, stay_apart}
use Rattle.exchange_laws.proofs.Parts.{signature_whole}
use Rattle.exchange_laws.proofs.Rerouted.{HasOwnHop}
use Rattle.exchange_laws.proofs.TagsAfter.{kept_stay_live, live_cases, live_stay_kept, live_tags_stay, signatures_are_kept, tags_stay_pooled}
use Rattle.exchange_laws.proofs.ToldAnew.{keeps_live, kept_is, live_kept, tag_was_live}
use Rattle.exchange_laws.specs.Retagging.{KeptAreLive, LiveAreKept, TagsArePooled}
use Rattle.exchange_laws.specs.Rules.{IsDeclaredAlike, OwnersAreDeclared}
use Rattle.exchange_laws.specs.Steady.{IsNew, IsSized, PortsAreNumbered, PortsDiffer}
use Rattle.exchange_laws.specs.Telling.{AreKnownTo}
use Rattle.exchange_laws.specs.Whole.{IsWhole, KeptAreWhole, RoutesAreDeclared}
use Rattle.net_types.proofs.FindLemmas.{not_there}
use Rattle.net_types.proofs.PassLemmas.{any_more}
use Rattle.net_types.proofs.SetLemmas.{Member-append_cases, map-append}
use Rattle.net_types.specs.Exports.{Routing, pid_of, route}
use Rattle.net_types.specs.Keys.{prefix_cmp, tag_cmp, is_ip_before}
use Rattle.net_types.specs.Naming.{named_in}
use Rattle.net_types.specs.Sets.{IsRising, Member}
use Rattle.net_types.specs.Signatures.{port_with, signature}
use Rattle.net_types.specs.declared.address.Pid.{Pid}
use Rattle.net_types.specs.declared.address.Tag.{Tag}
use Rattle.net_types.specs.declared.prefix.Prefix.{Prefix}
use Rattle.net_types.specs.declared.route.Attrs.{Attrs}
use Rattle.net_types.specs.declared.route.Part.{Part}
use Rattle.net_types.specs.declared.route.Participant.{Participant}
use Rattle.net_types.specs.declared.route.PortInfo.{PortInfo}
use Rattle.std.proofs.Math.Bool.{or-false}
use Rattle.std.proofs.lemmas.Option.{same_Some}

-- what holds of a steady state, whatever its table and its policies
pub record IsTidy (s : State) : Type 0 where
  pub pooled : TagsArePooled s
  pub kept : KeptAreLive s
  pub live : LiveAreKept s
  pub whole : KeptAreWhole s
  pub owners : OwnersAreDeclared s.routing
  pub told : length s.told ≡ length s.routing.participants
  pub hops : HopsAreOwn s
  pub routed : RoutesAreDeclared s.routing
  pub apart : PortsDiffer s.routing.ports
  pub numbered : PortsAreNumbered s.routing.ports
  pub rules : length s.routing.rules ≡ length s.routing.participants
  pub resolved : length s.resolved ≡ length s.routing.ports
  pub rising : AllRise s.resolved
  pub few : length s.routing.participants ≤ 256
  pub idle : s.owed ≡ None
  pub sized : IsSized s

-- nothing is there before the exchange runs
abbrev pub IsNewYet : State → Type 0
IsNewYet s = (s.phase ≡ Running → ⊥) → IsNew s

-- what isn't kept is whole
pub none_whole : (s : State) → s.kept ≡ empty → KeptAreWhole s
none_whole s none t sig is = absurd (not_there (get s.kept t) sig (ap (λ (m : FinMap tag_cmp (List Part)). get m t) none ∙ get-empty tag_cmp t) is)

-- ---- one line

pub not_running : (s : State) → s.phase ≡ Start → s.phase ≡ Running → ⊥
not_running s e f = cc

pub not_running_yet : (s : State) → s.phase ≡ Declaring → s.phase ≡ Running → ⊥
not_running_yet s e f = cc

participant_live : (s : State) (m : Participant) (t : Tag) → is_live (with_participant s m) t ≡ is_live s t
participant_live s m t =
    ap (λ b. list_any (same_tag t) (values s.tag) || b) (any_more (λ entries. tells entries t) s.told empty ∙ ap (λ b. list_any (λ entries. tells entries t) s.told || b) (nothing_told t) ∙ or-false (list_any (λ entries. tells entries t) s.told))

-- sizes stay where the pool and the capacity do
sized_later : (s s1 : State) → IsSized s → (s.phase ≡ Start → ⊥) → (s1.phase ≡ Start → ⊥) → s1.base ≡ s.base → s1.size ≡ s.size → s1.capacity ≡ s.capacity → IsSized s1
sized_later s s1 is before later base size capacity = record {
  start = λ e. absurd (later e);
  small = subst (λ n. n ≤ 65536) (sym size) is.small;
  low = λ e. subst (λ ip. 16777215 ≤ ip.0) (sym base) (is.low before);
  high = subst (λ n. s1.base.0 + n ≤ 3758096383) (sym size) (subst (λ ip. ip.0 + s.size ≤ 3758096383) (sym base) is.high);
  room = subst (λ n. n ≤ 1000000) (sym capacity) is.room;
}

-- before the exchange runs nothing is there
pub quiet_new : (s : State) {s1 : State} → QuietStep s s1 → IsNewYet s → IsNewYet s1
quiet_new s (pool base size capacity start formed) yet later =
    let new : IsNew s = yet (not_running s start) in record {
      routes = new.routes;
      tag = new.tag;
      kept = new.kept;
      told = new.told;
      drop = record { outbound = new.drop.outbound; inbound = new.drop.inbound; named = new.drop.named };
    }
quiet_new s (participant m declaring few) yet later =
    let new : IsNew s = yet (not_running_yet s declaring) in record {
      routes = new.routes;
      tag = new.tag;
      kept = new.kept;
      told = λ entries stands. elim (Member-append_cases s.told (empty ∷ []) entries stands) [
        | inl there ↦ new.told entries there
        | inr last ↦ elim last [ inl same ↦ same | inr none ↦ absurd none ]
      ];
      drop = record {
        outbound = ap (λ texts. texts ++ codes "drop" ∷ []) new.drop.outbound ∙ sym (map-append (λ (x : Participant). codes "drop") s.routing.participants (m ∷ []));
        inbound = ap (λ texts. texts ++ codes "drop" ∷ []) new.drop.inbound ∙ sym (map-append (λ (x : Participant). codes "drop") s.routing.participants (m ∷ []));
        named = ap (λ names. names ++ nobody ∷ []) new.drop.named ∙ sym (map-append (λ (x : Participant). nobody) s.routing.participants (m ∷ []));
      };
    }
quiet_new s (port q declaring declared free number) yet later =
    let new : IsNew s = yet (not_running_yet s declaring) in record {
      routes = new.routes;
      tag = new.tag;
      kept = new.kept;
      told = new.told;
      drop = record { outbound = new.drop.outbound; inbound = new.drop.inbound; named = new.drop.named };
    }
quiet_new s (resolved lists later long rising) yet not = absurd (not refl)

pub quiet_tidy : (s : State) {s1 : State} → QuietStep s s1 → IsNewYet s → IsTidy s → IsTidy s1
quiet_tidy s {s1} (pool base size capacity start formed) yet is =
    let new : IsNew s = yet (not_running s start) in record {
      pooled = λ t live. absurd (clash live (no_live s new t));
      kept = is.kept;
      live = λ t live. absurd (clash live (no_live s new t));
      whole = is.whole;
      owners = is.owners;
      told = is.told;
      hops = is.hops;
      routed = is.routed;
      apart = is.apart;
      numbered = is.numbered;
      rules = is.rules;
      resolved = is.resolved;
      rising = is.rising;
      few = is.few;
      idle = is.idle;
      sized = record { start = λ e. absurd (cc); small = formed.1; low = λ e. formed.4; high = formed.5; room = formed.3 };
    }
quiet_tidy s {s1} (participant m declaring few) yet is =
    let new : IsNew s = yet (not_running_yet s declaring) in
    let more : length (s.routing.participants ++ m ∷ []) ≡ length s.routing.participants + 1 = length-append s.routing.participants (m ∷ []) in record {
      pooled = λ t live. absurd (clash (sym (participant_live s m t) ∙ live) (no_live s new t));
      kept = λ t there. participant_live s m t ∙ is.kept t there;
      live = λ t live. absurd (clash (sym (participant_live s m t) ∙ live) (no_live s new t));
      whole = none_whole s1 new.kept;
      owners = λ q stands. let below : q.owner.0 < length s.routing.participants = is.owners q stands in omega arith;
      told = length-append s.told (empty ∷ []) ∙ ap (λ n. n + 1) is.told ∙ sym more;
      hops = is.hops;
      routed = λ who p a e. absurd (no_route s new (record { from = who; prefix = p }) a e);
      apart = is.apart;
      numbered = is.numbered;
      rules = length-append s.routing.rules ([] ∷ []) ∙ ap (λ n. n + 1) is.rules ∙ sym more;
      resolved = is.resolved;
      rising = is.rising;
      few = omega arith;
      idle = is.idle;
      sized = record { start = is.sized.start; small = is.sized.small; low = is.sized.low; high = is.sized.high; room = is.sized.room };
    }
quiet_tidy s {s1} (port q declaring declared free number) yet is =
    let new : IsNew s = yet (not_running_yet s declaring) in record {
      pooled = is.pooled;
      kept = is.kept;
      live = is.live;
      whole = is.whole;
      owners = λ x stands. elim (Member-append_cases s.routing.ports (q ∷ []) x stands) [
        | inl there ↦ is.owners x there
        | inr last ↦ elim last [ inl same ↦ subst (λ (y : PortInfo). y.owner.0 < length s.routing.participants) (sym same) declared | inr none ↦ absurd none ]
      ];
      told = is.told;
      hops = λ who p a e. absurd (no_route s new (record { from = who; prefix = p }) a e);
      routed = λ who p a e. absurd (no_route s new (record { from = who; prefix = p }) a e);
      apart = stay_apart s q free is.apart;
      numbered = λ x stands. elim (Member-append_cases s.routing.ports (q ∷ []) x stands) [
        | inl there ↦ is.numbered x there
        | inr last ↦ elim last [ inl same ↦ subst (λ (y : PortInfo). (1 ≤ y.number.0) × (y.number.0 ≤ 65279)) (sym same) number | inr none ↦ absurd none ]
      ];
      rules = is.rules;
      resolved = length-append s.resolved ([] ∷ []) ∙ ap (λ n. n + 1) is.resolved ∙ sym (length-append s.routing.ports (q ∷ []));
      rising = λ ips stands. elim (Member-append_cases s.resolved ([] ∷ []) ips stands) [
        | inl there ↦ is.rising ips there
        | inr last ↦ elim last [ inl same ↦ subst (IsRising is_ip_before) (sym same) tt | inr none ↦ absurd none ]
      ];
      few = is.few;
      idle = is.idle;
      sized = record { start = is.sized.start; small = is.sized.small; low = is.sized.low; high = is.sized.high; room = is.sized.room };
    }
quiet_tidy s {s1} (resolved lists later long rising) yet is = record {
  pooled = is.pooled;
  kept = is.kept;
  live = is.live;
  whole = is.whole;
  owners = is.owners;
  told = is.told;
  hops = is.hops;
  routed = is.routed;
  apart = is.apart;
  numbered = is.numbered;
  rules = is.rules;
  resolved = long ∙ is.resolved;
  rising = rising is.rising;
  few = is.few;
  idle = is.idle;
  sized = sized_later s (resolving s lists) is.sized later (λ e. cc) refl refl refl;
}

-- ---- other routes

-- the signature of a tag that is live after a change of routes is a prefix's, or was kept before
pub retagged_whole : (s : State) (r : Routing) → r.participants ≡ s.routing.participants → TagsArePooled s → KeptAreWhole s → KeptAreWhole (retagged s r)
retagged_whole s r alike pooled whole t sig is part m = elim (live_cases (retagged s r) t live) [
  | inl has ↦
      let same : sig ≡ signature r has.prefix = same_Some sig (signature r has.prefix) (sym is ∙ signatures_are_kept s r pooled has.prefix t has.tagged) in
      signature_whole r has.prefix part (subst (Member part) same m)
  | inr before ↦
      let was : is_live s t ≡ true = or_right (list_any (same_tag t) (values s.tag)) (list_any (λ entries. tells entries t) s.told) before in
      subst (λ n. IsWhole n part) (sym (ap length alike)) (whole t sig (sym (live_tags_stay s r pooled t was live) ∙ is) part m)
]
  where
    live : is_live (retagged s r) t ≡ true
    live = kept_stay_live s r pooled t (ap is_some is)

-- each route was there, or its NEXT_HOP was looked at
abbrev AreFrom : State → Routing → Type 0
AreFrom s r = (who : Pid) (p : Prefix) (a : Attrs) → route r who p ≡ Some a → (route s.routing who p ≡ Some a) ⊎ HasOwnHop s who a

routes_tidy : (s : State) (r : Routing) → IsDeclaredAlike s.routing r → length r.rules ≡ length s.routing.rules → AreFrom s r → (s.phase ≡ Start → ⊥) → IsTidy s → IsTidy (retagged s r)
routes_tidy s r alike rules each later is =
    let declared : length r.participants ≡ length s.routing.participants = ap length alike.participants in record {
      pooled = tags_stay_pooled s r is.pooled;
      kept = kept_stay_live s r is.pooled;
      live = live_stay_kept s r is.pooled is.live;
      whole = retagged_whole s r alike.participants is.pooled is.whole;
      owners = λ q m. let below : q.owner.0 < length s.routing.participants = is.owners q (subst (Member q) alike.ports m) in omega arith;
      told = is.told ∙ sym declared;
      hops = λ who p a has. ap (λ ports. option_map (λ (x : PortInfo). x.owner) (port_of (record s { routing = record s.routing { ports = ports } }) (port_with ports a.next_hop))) alike.ports
          ∙ elim (each who p a has) [ inl there ↦ is.hops who p a there | inr own ↦ own_hop s is.apart who a.next_hop own.hop ];
      routed = λ who p a has. subst (λ n. who.0 < n) (sym declared) (elim (each who p a has) [ inl there ↦ is.routed who p a there | inr own ↦ own.declared ]);
      apart = subst PortsDiffer (sym alike.ports) is.apart;
      numbered = subst PortsAreNumbered (sym alike.ports) is.numbered;
      rules = rules ∙ is.rules ∙ sym declared;
      resolved = is.resolved ∙ ap length (sym alike.ports);
      rising = is.rising;
      few = subst (λ n. n ≤ 256) (sym declared) is.few;
      idle = ap (option_map (λ n. capped (n + more_units s r))) is.idle;
      sized = sized_later s (retagged s r) is.sized later (λ e. cc) refl refl refl;
    }

-- ---- other policies

-- nothing of it speaks of the table, and of what a job owes only that there is none
pub retidied : (s : State) (table : TableOf) (owed : Option ℕ) → owed ≡ None → IsTidy s → IsTidy (record s { table = table; owed = owed })
retidied s table owed none is = record {
  pooled = is.pooled;
  kept = is.kept;
  live = is.live;
  whole = is.whole;
  owners = is.owners;
  told = is.told;
  hops = is.hops;
  routed = is.routed;
  apart = is.apart;
  numbered = is.numbered;
  rules = is.rules;
  resolved = is.resolved;
  rising = is.rising;
  few = is.few;
  idle = none;
  sized = record { start = is.sized.start; small = is.sized.small; low = is.sized.low; high = is.sized.high; room = is.sized.room };
}

-- a job that begins anew changes nothing else
restarted_tidy : (s : State) → IsTidy s → IsTidy (restarted s)
restarted_tidy s is = retidied s s.table (restarted s).owed (ap (option_map (λ n. all_units s)) is.idle) is

-- another text, and the signatures trimmed
outbound_tidy : (s : State) (who : Pid) (text : List ℕ) (named : List Pid) → IsTidy s → IsTidy (with_outbound s who text named)
outbound_tidy s who text named is = record {
  pooled = is.pooled;
  kept = λ t there. is.kept t (sym (kept_there s who text named t) ∙ there);
  live = λ t live. kept_there s who text named t ∙ is.live t live;
  whole = kept_whole s who text named is.whole;
  owners = is.owners;
  told = is.told;
  hops = is.hops;
  routed = is.routed;
  apart = is.apart;
  numbered = is.numbered;
  rules = is.rules;
  resolved = is.resolved;
  rising = is.rising;
  few = is.few;
  idle = is.idle;
  sized = record { start = is.sized.start; small = is.sized.small; low = is.sized.low; high = is.sized.high; room = is.sized.room };
}

sends_tidy : (s : State) (who : Pid) (text : List ℕ) (named : List Pid) → (s.phase ≡ Start → ⊥) → IsTidy s → IsTidy (sending s who text named)
sends_tidy s who text named later is =
    let s0 : State = with_outbound s who text named in
    let r : Routing = with_named s.routing who named in
    restarted_tidy (retagged s0 r) (routes_tidy s0 r (record { participants = refl; ports = refl }) refl (λ w p a there. inl there) later (outbound_tidy s who text named is))

receives_tidy : (s : State) (who : Pid) (text : List ℕ) → (s.phase ≡ Start → ⊥) → IsTidy s → IsTidy (receiving s who text)
receives_tidy s who text later is = record {
  pooled = is.pooled;
  kept = is.kept;
  live = is.live;
  whole = is.whole;
  owners = is.owners;
  told = is.told;
  hops = is.hops;
  routed = is.routed;
  apart = is.apart;
  numbered = is.numbered;
  rules = is.rules;
  resolved = is.resolved;
  rising = is.rising;
  few = is.few;
  idle = ap (option_map (λ n. all_units (running (record s { inbound = slice_set s.inbound who.0 text })))) is.idle;
  sized = sized_later s (receiving s who text) is.sized later (λ e. cc) refl refl refl;
}

-- ---- what was told

told_whole : (s : State) (who : Pid) (entries : FinMap prefix_cmp Entry) → KeptAreWhole s → KeptAreWhole (told_so s who entries)
told_whole s who entries whole t sig is part m = whole t sig (was (is_live (told_so s who entries) t) (sym (kept_is s who entries t) ∙ is)) part m
  where
    was : (b : Bool) → cond b (get s.kept t) None ≡ Some sig → get s.kept t ≡ Some sig
    was true e = e
    was false e = absurd (cc)

told_tidy : (s : State) (who : Pid) (entries : FinMap prefix_cmp Entry) → (s.phase ≡ Start → ⊥) → AreKnownTo s who entries → IsTidy s → IsTidy (told_so s who entries)
told_tidy s who entries later known is = record {
  pooled = λ t live. is.pooled t (tag_was_live s who entries known t live);
  kept = keeps_live s who entries;
  live = live_kept s who entries known is.live;
  whole = told_whole s who entries is.whole;
  owners = is.owners;
  told = set_length s.told who.0 entries ∙ is.told;
  hops = is.hops;
  routed = is.routed;
  apart = is.apart;
  numbered = is.numbered;
  rules = is.rules;
  resolved = is.resolved;
  rising = is.rising;
  few = is.few;
  idle = is.idle;
  sized = sized_later s (told_so s who entries) is.sized later (λ e. cc) refl refl refl;
}

-- ---- each line

pub step_tidy : (s : State) (e : Event) {s1 : State} → Step s e s1 → IsNewYet s → IsTidy s → IsTidy s1
step_tidy s e (quiet s1 step) yet is = quiet_tidy s step yet is
step_tidy s e (routes to later) yet is = routes_tidy s to.routing to.alike to.rules to.each later is
step_tidy s e (told who entries later known) yet is = told_tidy s who entries later known is
step_tidy s e (sends who text p later read clear) yet is = sends_tidy s who text (named_in (pid_of s.routing) p) later is
step_tidy s e (receives who text p later read clear) yet is = receives_tidy s who text later is

pub step_new : (s : State) (e : Event) {s1 : State} → Step s e s1 → IsNewYet s → IsNewYet s1
step_new s e (quiet s1 step) yet not = quiet_new s step yet not
step_new s e (routes to later) yet not = absurd (not refl)
step_new s e (told who entries later known) yet not = absurd (not refl)
step_new s e (sends who text p later read clear) yet not = absurd (not refl)
step_new s e (receives who text p later read clear) yet not = absurd (not refl)
