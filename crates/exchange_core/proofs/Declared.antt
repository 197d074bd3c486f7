-- The lines that declare are steps.
use Rattle.std.proofs.Common.{◌≡◌, ℕ, zero, suc, ◌+◌, ◌<◌, Bool, true, false, cond, not, nat_le, ◌&&◌, ◌||◌, List, [], ◌∷◌, ◌++◌, length, map, filter, replicate, ap, refl, subst, sym, ◌∙◌}
use Rattle.std.specs.Prelude.{Option, Some, None, codes}
use Rattle.std.specs.FinMap.{FinMap, empty, values}
use Rattle.std.specs.List.{list_any}
use Rattle.std.proofs.lemmas.Bool.{lt-leb}
use Rattle.std.proofs.lemmas.List.{length-append}
use Rattle.events.specs.After.{with_known, with_participant, with_port}
use Rattle.events.specs.Forms.{IsWellFormed}
use Rattle.events.specs.Fits.{IsStep, bare}
use Rattle.events.specs.Refusals.{if_known, is_name_taken, is_placed, is_port_taken, or_else, refusal, refusal_in_place, refused_if, suits_job}
use Rattle.events.specs.State.{State}
use Rattle.events.specs.Tags as events
use Rattle.events.specs.declared.Entry.{Entry}
use Rattle.events.specs.declared.Event.{Event}
use Rattle.events.specs.declared.Event.TheVariants.{Exchange, Participant as DeclaresParticipant, Port as DeclaresPort}
use Rattle.events.specs.declared.Head.TheVariants.{Fine}
use Rattle.events.specs.declared.Phase.{Phase}
use Rattle.events.specs.declared.Phase.TheVariants.{Start, Declaring, Running}
use Rattle.exchange_laws.specs.Steady.{IsNew}
use Rattle.fast_path.specs.Offers.{all_present}
use Rattle.block_build.specs.Installed.{Installed}
use Rattle.prefix_classes.specs.Classes.{Classes}
use Rattle.registry.specs.Registered as registered
use Rattle.registry.specs.Registered.{Registered}
use Rattle.route_server.specs.Served.{Served}
use Rattle.net_types.proofs.SetLemmas.{map-append}
use Rattle.events.specs.declared.Refusal.{Refusal}
use Rattle.events.specs.declared.Refusal.TheVariants.{Clash, Full, Misplaced}
use Rattle.events.specs.declared.Reply.{Reply}
use Rattle.net_types.proofs.PassLemmas.{any_more}
use Rattle.net_types.proofs.ValueLemmas.{no_entries}
use Rattle.net_types.specs.Exports.{pid_of}
use Rattle.net_types.specs.Keys.{prefix_cmp}
use Rattle.net_types.specs.Routes.{numbers}
use Rattle.net_types.specs.Sets.{Member}
use Rattle.net_types.specs.declared.address.Ip.{Ip}
use Rattle.net_types.specs.declared.address.Mac.{Mac}
use Rattle.net_types.specs.declared.address.Pid.{Pid}
use Rattle.net_types.specs.declared.address.PortNo.{PortNo}
use Rattle.net_types.specs.declared.address.Tag.{Tag}
use Rattle.net_types.specs.declared.prefix.Prefix.{Prefix}
use Rattle.net_types.specs.declared.route.Participant.{Participant}
use Rattle.net_types.specs.declared.route.PortInfo.{PortInfo}
use Rattle.next_hop_pool.proofs.FreeLemmas.{free_by_place, free_from}
use Rattle.next_hop_pool.specs.Free.{Tags, all_free, tag}
use Rattle.exchange_core.proofs.Compiled.{dropping_compiled, joined_compiled}
use Rattle.exchange_core.proofs.Present.{all_nothing, same_more}
use Rattle.exchange_core.proofs.Steps.{kept_after, quiet_step, steady_after}
use Rattle.exchange_core.proofs.Stops.{stops_at}
use Rattle.exchange_core.specs.Stops.{IsStop}
use Rattle.exchange_core.specs.declared.stop.Stop.{Stop}
use Rattle.exchange_core.specs.declared.stop.Stop.TheVariants.{Refused}
use Rattle.exchange_core.specs.Programs.{AreCompiled, IsDropping, inbound_texts, outbound_texts}
use Rattle.exchange_core.specs.declared.programs.Programs.{Programs}
use Rattle.exchange_core.specs.View.{IsKept, state_of}
use Rattle.std.proofs.Math.Bool.{or-false}

-- the line is in place while participants and ports are declared
pub declaring_at : (s : State) (e : Event) (o : Option Refusal) → s.phase ≡ Declaring → (suits_job s.owed e && is_placed Declaring e) ≡ true → refusal_in_place s e ≡ o → refusal s e ≡ o
declaring_at s e o declaring here is =
    ap (λ p. cond (suits_job s.owed e && is_placed p e) (refusal_in_place s e) (Some Misplaced)) declaring ∙ ap (λ b. cond b (refusal_in_place s e) (Some Misplaced)) here ∙ is

-- ---- the pool and the table

abbrev exchanged : State → Ip → ℕ → ℕ → State
exchanged s base size capacity = record s { phase = Declaring; base = base; size = size; capacity = capacity }

pub exchange_step : {s : State} {pool : Tags} {all : List Programs} → IsKept s pool all → s.phase ≡ Start → (base : Ip) (size capacity : ℕ) → IsWellFormed (Exchange base size capacity) → (r : Reply) → r ≡ bare Fine
    → IsStep s (Exchange base size capacity) r (exchanged s base size capacity)
exchange_step {s} kept start base size capacity formed r is =
    let e : Event = Exchange base size capacity in
    quiet_step s e r kept.steady formed refl (ap (λ p. cond (is_placed p e) (refusal_in_place s e) (Some Misplaced)) start) refl is

-- before the first line no tag is live
none_live : {s : State} {pool : Tags} {all : List Programs} → IsKept s pool all → s.phase ≡ Start → (t : Tag) → events.is_live s t ≡ false
none_live {s} kept start t = by (events.is_live s t) refl
  where
    by : (b : Bool) → events.is_live s t ≡ b → events.is_live s t ≡ false
    by false e = e
    by true e = absurd (elim (subst (λ n. Member t (map (λ k. let u : Tag = record { 0 = k } in u) (numbers 1 n))) (kept.steady.sized.start start) (kept.steady.pooled t e)) [ ])

all_pass : (f : Tag → Bool) → ((t : Tag) → f t ≡ false) → (ts : List Tag) → filter (λ t. not (f t)) ts ≡ ts
all_pass f none [] = refl
all_pass f none (t ∷ ts) = ap (λ b. cond (not b) (t ∷ filter (λ u. not (f u)) ts) (filter (λ u. not (f u)) ts)) (none t) ∙ ap (λ us. t ∷ us) (all_pass f none ts)

free_new : (n size : ℕ) → free_from n (replicate size false) ≡ map tag (numbers n size)
free_new n zero = refl
free_new n (suc size) = ap (λ ts. tag n ∷ ts) (free_new (n + 1) size)

pub exchange_kept : {s : State} {pool : Tags} {all : List Programs} → IsKept s pool all → s.phase ≡ Start → (base : Ip) (size capacity : ℕ) → IsWellFormed (Exchange base size capacity) → (pool' : Tags) → pool' ≡ all_free base size
    → IsKept (exchanged s base size capacity) pool' all
exchange_kept {s} {pool} {all} kept start base size capacity formed pool' is =
    let e : Event = Exchange base size capacity in
    let s' : State = exchanged s base size capacity in
    let fresh : IsKept s' (all_free base size) all = record {
      steady = steady_after s e (bare Fine) s' kept.steady formed refl (exchange_step kept start base size capacity formed (bare Fine) refl);
      free = all_pass (events.is_live s) (none_live kept start) (map tag (numbers 1 size)) ∙ sym (free_new 1 size) ∙ sym (free_by_place (replicate size false));
      base = refl;
      size = long size;
      compiled = kept.compiled;
    } in
    subst (λ (p : Tags). IsKept s' p all) (sym is) fresh
  where
    long : (n : ℕ) → length (replicate n false) ≡ n
    long zero = refl
    long (suc n) = ap suc (long n)

-- ---- a participant

nothing_told : (t : Tag) → events.tells empty t ≡ false
nothing_told t = ap (λ es. list_any (λ (x : Entry). events.same_tag x.tag t) (map (λ (d : Prefix × Entry). d.1) es)) (no_entries Prefix Entry prefix_cmp)

-- who was told nothing makes no tag live
participant_live : (s : State) (m : Participant) (t : Tag) → events.is_live (with_participant s m) t ≡ events.is_live s t
participant_live s m t =
    ap (λ b. list_any (events.same_tag t) (values s.tag) || b)
    (any_more (λ entries. events.tells entries t) s.told empty ∙ ap (λ b. list_any (λ entries. events.tells entries t) s.told || b) (nothing_told t) ∙ or-false (list_any (λ entries. events.tells entries t) s.told))

-- a line that declares comes before the exchange runs
not_running : (p : Phase) → p ≡ Declaring → p ≡ Running → ⊥
not_running p one two = cc

still_new : {s : State} {pool : Tags} {all : List Programs} → IsKept s pool all → s.phase ≡ Declaring → IsNew s
still_new {s} kept declaring = kept.steady.new (λ running. not_running s.phase declaring running)

-- nobody was told anything yet
pub nobody_told : {s : State} {pool : Tags} {all : List Programs} → IsKept s pool all → s.phase ≡ Declaring → (n : ℕ) → n ≡ length s.routing.participants → replicate (n + 1) empty ≡ s.told ++ empty ∷ []
nobody_told {s} kept declaring n count = same_more empty s.told n (still_new kept declaring).told (kept.steady.told ∙ sym count)

-- nothing is present for a further participant, nor for the others
pub nothing_joined : {s : State} {pool : Tags} {all : List Programs} → IsKept s pool all → s.phase ≡ Declaring → (m : Participant) (n : ℕ) → n ≡ length s.routing.participants → replicate (n + 1) empty ≡ all_present (with_participant s m)
nothing_joined {s} kept declaring m n count =
    ap (λ k. replicate k empty) (ap (λ k. k + 1) count ∙ sym (length-append s.routing.participants (m ∷ []))) ∙ sym (all_nothing (with_participant s m) (still_new kept declaring).routes)

-- a further port makes nothing present
pub nothing_ported : {s : State} {pool : Tags} {all : List Programs} → IsKept s pool all → s.phase ≡ Declaring → (q : PortInfo) → all_present s ≡ all_present (with_port s q)
nothing_ported {s} kept declaring q =
    let none = (still_new kept declaring).routes in all_nothing s none ∙ sym (all_nothing (with_port s q) none)

pub participant_step : {s : State} {pool : Tags} {all : List Programs} → IsKept s pool all → s.phase ≡ Declaring → (name : List ℕ) (asn : ℕ) (id : Ip) → IsWellFormed (DeclaresParticipant name asn id)
    → is_name_taken s name ≡ false → length s.routing.participants < 256 → (r : Reply) → r ≡ bare Fine → IsStep s (DeclaresParticipant name asn id) r (with_participant s (record { name = name; asn = asn; id = id }))
participant_step {s} kept declaring name asn id formed absent few r is =
    quiet_step s (DeclaresParticipant name asn id) r kept.steady formed refl
    (declaring_at s (DeclaresParticipant name asn id) None declaring refl
    (ap (λ b. or_else (refused_if b Clash) (refused_if (nat_le 256 (length s.routing.participants)) Full)) absent ∙ ap (λ b. refused_if b Full) (lt-leb 256 (length s.routing.participants) few)))
    refl is

pub participant_kept : {s : State} {pool : Tags} {all : List Programs} → IsKept s pool all → s.phase ≡ Declaring → (name : List ℕ) (asn : ℕ) (id : Ip) → IsWellFormed (DeclaresParticipant name asn id)
    → is_name_taken s name ≡ false → length s.routing.participants < 256
    → (all' : List Programs) → AreCompiled (pid_of (with_participant s (record { name = name; asn = asn; id = id })).routing) all' → IsKept (with_participant s (record { name = name; asn = asn; id = id })) pool all'
participant_kept {s} {pool} kept declaring name asn id formed absent few all' compiled =
    let m : Participant = record { name = name; asn = asn; id = id } in
    kept_after s (DeclaresParticipant name asn id) (bare Fine) (with_participant s m) pool kept formed refl (participant_step kept declaring name asn id formed absent few (bare Fine) refl)
    (same_free (events.is_live (with_participant s m)) (events.is_live s) (participant_live s m) (events.tags s)) refl refl all' compiled
  where
    same_free : (f g : Tag → Bool) → ((t : Tag) → f t ≡ g t) → (ts : List Tag) → filter (λ t. not (f t)) ts ≡ filter (λ t. not (g t)) ts
    same_free f g same ts = ap (λ (h : Tag → Bool). filter (λ t. not (h t)) ts) (λ i t. same t i)

-- the policies with those of a further participant are compiled
pub participant_compiled : {s : State} {pool : Tags} {all : List Programs} → IsKept s pool all → s.phase ≡ Declaring → s.outbound ≡ outbound_texts all → s.inbound ≡ inbound_texts all → (names : List ℕ → Option Pid) (b : Programs) → IsDropping b.outbound → IsDropping b.inbound
    → (all' : List Programs) → all' ≡ all ++ b ∷ [] → AreCompiled names all'
participant_compiled {s} {pool} {all} kept declaring outbound inbound names b out_drops in_drops all' joined =
    let new : IsNew s = still_new kept declaring in
    subst (AreCompiled names) (sym joined)
    (joined_compiled names all b (dropping_compiled s all outbound inbound new.drop (pid_of s.routing) names kept.compiled) (out_drops.compiled names) (in_drops.compiled names))

-- the name is taken
pub name_stops : (s st : State) → s ≡ st → s.phase ≡ Declaring → (name : List ℕ) (asn : ℕ) (id : Ip) → is_name_taken s name ≡ true → (stop : Stop) → stop ≡ Refused Clash → IsStop st (DeclaresParticipant name asn id) stop
name_stops s st is declaring name asn id there stop says =
    let e : Event = DeclaresParticipant name asn id in
    stops_at s st e stop Clash is says
    (declaring_at s e (Some Clash) declaring refl (ap (λ b. or_else (refused_if b Clash) (refused_if (nat_le 256 (length s.routing.participants)) Full)) there))

-- there are as many participants as there may be
pub full_stops : (s st : State) → s ≡ st → s.phase ≡ Declaring → (name : List ℕ) (asn : ℕ) (id : Ip) → is_name_taken s name ≡ false → nat_le 256 (length s.routing.participants) ≡ true → (stop : Stop) → stop ≡ Refused Full
    → IsStop st (DeclaresParticipant name asn id) stop
full_stops s st is declaring name asn id absent many stop says =
    let e : Event = DeclaresParticipant name asn id in
    stops_at s st e stop Full is says
    (declaring_at s e (Some Full) declaring refl
    (ap (λ b. or_else (refused_if b Clash) (refused_if (nat_le 256 (length s.routing.participants)) Full)) absent ∙ ap (λ b. refused_if b Full) many))

-- ---- a port

abbrev port_by : Pid → PortNo → Ip → Mac → PortInfo
port_by who number ip mac = record { owner = who; number = number; ip = ip; mac = mac }

pub port_step : {s : State} {pool : Tags} {all : List Programs} → IsKept s pool all → s.phase ≡ Declaring → (name : List ℕ) (who : Pid) (number : PortNo) (ip : Ip) (mac : Mac) → IsWellFormed (DeclaresPort name number ip mac)
    → pid_of s.routing name ≡ Some who → is_port_taken s number ip mac ≡ false → (r : Reply) → r ≡ bare Fine → IsStep s (DeclaresPort name number ip mac) r (with_port s (port_by who number ip mac))
port_step {s} kept declaring name who number ip mac formed known free r is =
    let e : Event = DeclaresPort name number ip mac in
    subst (IsStep s e r) (ap (λ o. with_known s o (λ w. with_port s (port_by w number ip mac))) known)
    (quiet_step s e r kept.steady formed refl (declaring_at s e None declaring refl
    (ap (λ o. if_known o (λ w. refused_if (is_port_taken s number ip mac) Clash)) known ∙ ap (λ b. refused_if b Clash) free)) refl is)

pub port_kept : {s : State} {pool : Tags} {all : List Programs} → IsKept s pool all → s.phase ≡ Declaring → (name : List ℕ) (who : Pid) (number : PortNo) (ip : Ip) (mac : Mac) → IsWellFormed (DeclaresPort name number ip mac)
    → pid_of s.routing name ≡ Some who → is_port_taken s number ip mac ≡ false → IsKept (with_port s (port_by who number ip mac)) pool all
port_kept {s} {pool} kept declaring name who number ip mac formed known free =
    kept_after s (DeclaresPort name number ip mac) (bare Fine) (with_port s (port_by who number ip mac)) pool kept formed refl
    (port_step kept declaring name who number ip mac formed known free (bare Fine) refl) refl refl refl _ kept.compiled

-- the port's number or one of its addresses is taken, or reserved
pub port_stops : (s st : State) → s ≡ st → s.phase ≡ Declaring → (name : List ℕ) (who : Pid) (number : PortNo) (ip : Ip) (mac : Mac) → pid_of s.routing name ≡ Some who → is_port_taken s number ip mac ≡ true → (stop : Stop) → stop ≡ Refused Clash
    → IsStop st (DeclaresPort name number ip mac) stop
port_stops s st is declaring name who number ip mac known taken stop says =
    let e : Event = DeclaresPort name number ip mac in
    stops_at s st e stop Clash is says
    (declaring_at s e (Some Clash) declaring refl
    (ap (λ o. if_known o (λ w. refused_if (is_port_taken s number ip mac) Clash)) known ∙ ap (λ b. refused_if b Clash) taken))

-- ---- the parts after a line

module _ (phase : Phase) (base : Ip) (size : ℕ) (names names' : Registered) (served served' : Served) (resolved resolved' : List (List Ip)) (classes : Classes) (told told' : List (FinMap prefix_cmp Entry)) (installed : Installed) (all all' : List Programs) where
  abbrev before : State
  before = state_of phase base size names served resolved classes told installed all

  -- the parts with a further participant are the state with one
  pub joined_is : (m : Participant) → names' ≡ registered.with_participant names m → served'.rules ≡ served.rules ++ [] ∷ [] → served'.named ≡ served.named ++ [] ∷ [] → served'.routes ≡ served.routes → told' ≡ told ++ empty ∷ []
      → (b : Programs) → all' ≡ all ++ b ∷ [] → IsDropping b.outbound → IsDropping b.inbound → state_of phase base size names' served' resolved classes told' installed all' ≡ with_participant before m
  joined_is m declared rules named routes more b joined out_drops in_drops =
      let outbound : outbound_texts all' ≡ outbound_texts all ++ codes "drop" ∷ [] =
      ap outbound_texts joined ∙ map-append (λ (x : Programs). x.outbound.text) all (b ∷ []) ∙ ap (λ t. outbound_texts all ++ t ∷ []) out_drops.text in
      let inbound : inbound_texts all' ≡ inbound_texts all ++ codes "drop" ∷ [] =
      ap inbound_texts joined ∙ map-append (λ (x : Programs). x.inbound.text) all (b ∷ []) ∙ ap (λ t. inbound_texts all ++ t ∷ []) in_drops.text in
      λ i. record before {
        routing = record { participants = (declared i).participants; ports = (declared i).ports; rules = rules i; named = named i; routes = routes i };
        outbound = outbound i;
        inbound = inbound i;
        told = more i;
      }

  -- and so with a further port
  pub ported_is : (q : PortInfo) → names' ≡ registered.with_port names q → resolved' ≡ resolved ++ [] ∷ [] → state_of phase base size names' served resolved' classes told installed all ≡ with_port before q
  ported_is q declared more = λ i. state_of phase base size (declared i) served (more i) classes told installed all
