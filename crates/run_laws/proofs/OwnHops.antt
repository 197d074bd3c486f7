-- Ports are found by their numbers and addresses, each NEXT_HOP is at a port of its participant, and so is each offer that is
-- kept, in every state that a legal run reaches.
use Rattle.std.proofs.Common.{◌≡◌, ℕ, ◌-◌, ◌≤◌, Bool, true, false, cond, ◌&&◌, ◌||◌, nat_eq, nat_lt, not, List, [], ◌∷◌, ◌++◌, filter, map, take, sym, ap, subst, ◌∙◌, refl, inl, inr}
use Rattle.std.specs.Prelude.{Option, Some, None, Result, Ok, Err, find, unwrap_or}
use Rattle.std.specs.FinMap.{FinMap, get, get-empty, keys}
use Rattle.std.specs.List.{list_any}
use Rattle.std.specs.Option.{option_map, option_map_or}
use Rattle.std.specs.Ordering.{eq_by_cmp}
use Rattle.std.proofs.lemmas.Bool.{and_parts, eq-eqb, eqb-true, false_from_ne_true, or_left, or_right, not-false}
use Rattle.events.proofs.Candidates.{candidate_exported}
use Rattle.events.proofs.Drained.{some_cond}
use Rattle.events.proofs.Routed.{part_with}
use Rattle.events.specs.After.{after, bound_read, least_tag, merged, received_by, ruled, running, sent_by, settled, taken, trimmed_kept, updated, with_named, with_outbound, with_port, with_told, with_update, without_from, worked}
use Rattle.events.specs.Forms.{IsWellFormed}
use Rattle.events.specs.Legal.{Legal, state_after}
use Rattle.events.specs.Pending.{pending}
use Rattle.events.specs.Refusals.{attrs_refusal, has_next_hop, is_port_taken, refusal, refused_if, update_refusal}
use Rattle.events.specs.Resolving.{is_in_pool, unresolved, with_answer, with_resolved}
use Rattle.events.specs.State.{State, first, port_of, present}
use Rattle.events.specs.Tags.{Group, carried, fresh_tag, group_of, group_with, groups, is_changed, is_live, kept_signature, retagged, same_group, same_tag, tags, tags_after}
use Rattle.events.specs.declared.Event.{Event}
use Rattle.events.specs.declared.Event.TheVariants.{Bad, Exchange, Participant as DeclaresParticipant, Port as DeclaresPort, Update, Down, Export, Outbound, Inbound, Take, Drain, Arp, Resolve, Packet, Frame, Recompile, Work, Table}
use Rattle.events.specs.declared.Refusal.TheVariants.{Clash, NextHop}
use Rattle.events.specs.declared.Reply.{Reply}
use Rattle.exchange_laws.proofs.Rerouted.{neither, not_gone, not_stopped, passes, still_there}
use Rattle.grammar.specs.TextReading.{Fault as Misread}
use Rattle.net_types.proofs.FindLemmas.{any_at, find-IsFound, not_there}
use Rattle.net_types.proofs.MapLemmas.{get-tabulate}
use Rattle.net_types.proofs.OrderLemmas.{tags_total}
use Rattle.net_types.proofs.PassLemmas.{find_last, find_more}
use Rattle.net_types.proofs.RisingLemmas.{filter-Member, once_of}
use Rattle.net_types.proofs.SetLemmas.{Member-append_cases, map-Member}
use Rattle.net_types.proofs.TieLemmas.{tag_tie}
use Rattle.net_types.specs.Attributes.{same_option}
use Rattle.net_types.specs.Changes.{announced_with, withdrawn}
use Rattle.net_types.specs.Changes as changes
use Rattle.net_types.specs.ExportReading.{rules_of_text}
use Rattle.net_types.specs.Exports.{Routing, named_by, pid_of}
use Rattle.net_types.specs.Keys.{RouteKey, prefix_cmp, route_cmp, tag_cmp}
use Rattle.net_types.specs.Maps.{tabulate}
use Rattle.net_types.specs.Naming.{named_in}
use Rattle.net_types.specs.Octets.{same_octets}
use Rattle.net_types.specs.Policies.{Policy}
use Rattle.net_types.specs.PolicyReading.{policy_of_text}
use Rattle.net_types.specs.Routes.{Candidate, best, candidates, pids}
use Rattle.net_types.specs.Sets.{Member}
use Rattle.net_types.specs.Signatures.{counts, offer, part, signature, trimmed, trimmed_part}
use Rattle.net_types.specs.UpdateReading.{decoded}
use Rattle.net_types.specs.declared.address.Ip.{Ip}
use Rattle.net_types.specs.declared.address.Pid.{Pid}
use Rattle.net_types.specs.declared.address.PortNo.{PortNo}
use Rattle.net_types.specs.declared.address.Tag.{Tag}
use Rattle.net_types.specs.declared.export.ExportRule.{ExportRule}
use Rattle.net_types.specs.declared.prefix.Prefix.{Prefix}
use Rattle.net_types.specs.declared.route.Attrs.{Attrs}
use Rattle.net_types.specs.declared.route.Offer.{Offer}
use Rattle.net_types.specs.declared.route.Part.{Part}
use Rattle.net_types.specs.declared.route.PortInfo.{PortInfo}
use Rattle.net_types.specs.declared.update.Fault.{Fault}
use Rattle.net_types.specs.declared.update.Update.{Update as Message}
use Rattle.run_laws.proofs.Carried.{written_runs_hold}
use Rattle.run_laws.proofs.Fitting.{RoutesOf, set_or_there}
use Rattle.run_laws.proofs.Giving.{found, settled_kept, trimmed_narrower}
use Rattle.net_types.proofs.SetLemmas.{given_by}
use Rattle.exchange_laws.proofs.Lists.{clash}
use Rattle.run_laws.proofs.Known.{answer_is, free_holds, known_holds, resolved_is}

-- ---- ports

abbrev pub with_number : PortNo → PortInfo → Bool
with_number n q = nat_eq q.number.0 n.0

abbrev with_address : Ip → PortInfo → Bool
with_address ip q = nat_eq q.ip.0 ip.0

-- the owner of the port of a number
abbrev pub owner_in : List PortInfo → PortNo → Option Pid
owner_in ports n = option_map (λ (q : PortInfo). q.owner) (find (with_number n) ports)

-- there is a port of the address, and it is the participant's
record IsHopOf (ports : List PortInfo) (who : Pid) (ip : Ip) : Type 0 where
  port : PortInfo
  at : find (with_address ip) ports ≡ Some port
  owner : owner_in ports port.number ≡ Some who

-- each route's NEXT_HOP is at a port of its participant
abbrev HopsAreAt : List PortInfo → RoutesOf → Type 0
HopsAreAt ports routes = (k : RouteKey) (a : Attrs) → get routes k ≡ Some a → IsHopOf ports k.from a.next_hop

-- each offer's port is its exporter's
abbrev pub OffersAreOwn : List PortInfo → List Part → Type 0
OffersAreOwn ports sig = (x : Part) → Member x sig → (o : Offer) → Member o x.offers → owner_in ports o.port ≡ Some o.exporter

-- ports are found by their numbers and addresses, and the numbers are those that a line may have
record AreApart (ports : List PortInfo) : Type 0 where
  numbers : (q : PortInfo) → Member q ports → find (with_number q.number) ports ≡ Some q
  addresses : (q : PortInfo) → Member q ports → find (with_address q.ip) ports ≡ Some q
  small : (q : PortInfo) → Member q ports → q.number.0 ≤ 65279

record IsOwnedBy (ports : List PortInfo) (routes : RoutesOf) (kept : FinMap tag_cmp (List Part)) : Type 0 where
  apart : AreApart ports
  hops : HopsAreAt ports routes
  offers : (t : Tag) (sig : List Part) → get kept t ≡ Some sig → OffersAreOwn ports sig

abbrev IsOwned : State → Type 0
IsOwned s = IsOwnedBy s.routing.ports s.routing.routes s.kept

-- ---- one more port

none_of : {A : Type 0} (f g : A → Bool) (xs : List A) → ((x : A) → f x ≡ true → g x ≡ true) → list_any g xs ≡ false → list_any f xs ≡ false
none_of f g xs weaker none =
    false_from_ne_true (list_any f xs) (λ some. let x = found f xs some in clash (any_at g xs x.0 x.1 (weaker x.0 x.2)) none)

-- what is found in a list or is a new member that none in the list is taken for
module _ (value : PortInfo → ℕ) (ports : List PortInfo) (q : PortInfo) (free : list_any (λ (x : PortInfo). nat_eq (value x) (value q)) ports ≡ false)
    (old : (x : PortInfo) → Member x ports → find (λ (y : PortInfo). nat_eq (value y) (value x)) ports ≡ Some x) where
  found_among : (x : PortInfo) → Member x (ports ++ q ∷ []) → find (λ (y : PortInfo). nat_eq (value y) (value x)) (ports ++ q ∷ []) ≡ Some x
  found_among x m = elim (Member-append_cases ports (q ∷ []) x m) [
    | inl there ↦ find_more (λ (y : PortInfo). nat_eq (value y) (value x)) ports q x (old x there)
    | inr last ↦ new last
  ]
    where
      own : find (λ (y : PortInfo). nat_eq (value y) (value q)) (ports ++ q ∷ []) ≡ Some q
      own = find_last (λ (y : PortInfo). nat_eq (value y) (value q)) ports q free ∙ ap (λ b. cond b (Some q) None) (eq-eqb (value q) (value q) refl)

      new : Member x (q ∷ []) → find (λ (y : PortInfo). nat_eq (value y) (value x)) (ports ++ q ∷ []) ≡ Some x
      new (inl same) = subst (λ (z : PortInfo). find (λ (y : PortInfo). nat_eq (value y) (value z)) (ports ++ q ∷ []) ≡ Some z) (sym same) own
      new (inr none) = absurd none

owner_more : (ports : List PortInfo) (q : PortInfo) (n : PortNo) (who : Pid) → owner_in ports n ≡ Some who → owner_in (ports ++ q ∷ []) n ≡ Some who
owner_more ports q n who e = by (find (with_number n) ports) refl e
  where
    by : (o : Option PortInfo) → find (with_number n) ports ≡ o → option_map (λ (x : PortInfo). x.owner) o ≡ Some who → owner_in (ports ++ q ∷ []) n ≡ Some who
    by None at e = absurd (cc)
    by (Some x) at e = ap (option_map (λ (y : PortInfo). y.owner)) (find_more (with_number n) ports q x at) ∙ e

-- a port takes the number, the address or the MAC of another
abbrev takes : PortInfo → PortInfo → Bool
takes q x = nat_eq x.number.0 q.number.0 || nat_eq x.ip.0 q.ip.0 || same_octets x.mac.0 q.mac.0

port_owned : (s : State) (q : PortInfo) → is_port_taken s q.number q.ip q.mac ≡ false → q.number.0 ≤ 65279 → IsOwned s → IsOwned (with_port s q)
port_owned s q free small is =
    let ports : List PortInfo = s.routing.ports in record {
      apart = record {
        numbers = found_among (λ x. x.number.0) ports q (none_of (with_number q.number) (takes q) ports (λ x e. or_left (nat_eq x.number.0 q.number.0 || nat_eq x.ip.0 q.ip.0) (same_octets x.mac.0 q.mac.0) (or_left (nat_eq x.number.0 q.number.0) (nat_eq x.ip.0 q.ip.0) e)) none) is.apart.numbers;
        addresses = found_among (λ x. x.ip.0) ports q (none_of (with_address q.ip) (takes q) ports (λ x e. or_left (nat_eq x.number.0 q.number.0 || nat_eq x.ip.0 q.ip.0) (same_octets x.mac.0 q.mac.0) (or_right (nat_eq x.number.0 q.number.0) (nat_eq x.ip.0 q.ip.0) e)) none) is.apart.addresses;
        small = λ x m. elim (Member-append_cases ports (q ∷ []) x m) [ inl there ↦ is.apart.small x there | inr last ↦ new x last ];
      };
      hops = λ k a e. let hop = is.hops k a e in record { port = hop.port; at = find_more (with_address a.next_hop) ports q hop.port hop.at; owner = owner_more ports q hop.port.number k.from hop.owner };
      offers = λ t sig e x m o n. owner_more ports q o.port o.exporter (is.offers t sig e x m o n);
    }
  where
    none : list_any (takes q) s.routing.ports ≡ false
    none = false_from_ne_true (list_any (takes q) s.routing.ports) (λ some.
        clash (or_left (list_any (takes q) s.routing.ports || is_in_pool s q.ip) (same_octets (take 3 q.mac.0) (2 ∷ 83 ∷ 68 ∷ [])) (or_left (list_any (takes q) s.routing.ports) (is_in_pool s q.ip) some)) free)

    new : (x : PortInfo) → Member x (q ∷ []) → x.number.0 ≤ 65279
    new x (inl same) = subst (λ (y : PortInfo). y.number.0 ≤ 65279) (sym same) small
    new x (inr nothing) = absurd nothing

-- ---- routes

-- a NEXT_HOP that was looked at is at a port of the participant
looked_at : (ports : List PortInfo) → AreApart ports → (who : Pid) (ip : Ip) → list_any (λ (q : PortInfo). nat_eq q.owner.0 who.0 && nat_eq q.ip.0 ip.0) ports ≡ true → IsHopOf ports who ip
looked_at ports apart who ip has =
    let at = found (λ (q : PortInfo). nat_eq q.owner.0 who.0 && nat_eq q.ip.0 ip.0) ports has in
    let q : PortInfo = at.0 in
    let both = and_parts (nat_eq q.owner.0 who.0) (nat_eq q.ip.0 ip.0) at.2 in
    let place : q.ip.0 ≡ ip.0 = eqb-true q.ip.0 ip.0 both.1 in
    let own : q.owner.0 ≡ who.0 = eqb-true q.owner.0 who.0 both.0 in
    let owner : q.owner ≡ who = λ i. record { 0 = own i } in record {
      port = q;
      at = subst (λ n. find (λ (x : PortInfo). nat_eq x.ip.0 n) ports ≡ Some q) place (apart.addresses q at.1);
      owner = ap (option_map (λ (x : PortInfo). x.owner)) (apart.numbers q at.1) ∙ ap Some owner;
    }

updated_hops : (s : State) (who : Pid) (u : Message) → attrs_refusal s who u.attrs ≡ None → IsOwned s → HopsAreAt s.routing.ports (changes.updated who u s.routing.routes)
updated_hops s who u free is k a e = by u.attrs free e
  where
    old : RoutesOf
    old = s.routing.routes

    hop : (attrs : Attrs) → attrs_refusal s who (Some attrs) ≡ None → IsHopOf s.routing.ports who attrs.next_hop
    hop attrs none =
        looked_at s.routing.ports is.apart who attrs.next_hop
        (not-false (has_next_hop s who attrs.next_hop) (not_stopped (not (has_next_hop s who attrs.next_hop)) NextHop (neither _ (refused_if (not (has_next_hop s who attrs.next_hop)) NextHop) none).1))

    by : (o : Option Attrs) → attrs_refusal s who o ≡ None → get (announced_with who o u.announced (withdrawn who u.withdrawn s.routing.routes)) k ≡ Some a → IsHopOf s.routing.ports k.from a.next_hop
    by None none e = is.hops k a (still_there who u.withdrawn s.routing.routes k a e)
    by (Some attrs) none e = elim (set_or_there who attrs u.announced (withdrawn who u.withdrawn s.routing.routes) k a e) [
      | inl there ↦ is.hops k a (still_there who u.withdrawn s.routing.routes k a there)
      | inr new ↦ subst (λ (w : Pid). IsHopOf s.routing.ports w a.next_hop) (sym new.0) (subst (λ (x : Attrs). IsHopOf s.routing.ports who x.next_hop) new.1 (hop attrs none))
    ]

-- ---- kept signatures

signature_own : (r : Routing) → HopsAreAt r.ports r.routes → (p : Prefix) → OffersAreOwn r.ports (signature r p)
signature_own r hops p x m o n =
    let from = given_by (part r p) (pids r) x m in
    by from.source (best r from.source p) from.is
  where
    owned : (to : Pid) (c : Candidate) → Member o (map (offer r) (filter (λ (d : Candidate). counts (named_by r to) c.from d.from) (candidates r to p))) → owner_in r.ports o.port ≡ Some o.exporter
    owned to c n =
        let test : Candidate → Bool = λ d. counts (named_by r to) c.from d.from in
        let image = map-Member (offer r) (filter test (candidates r to p)) o n in
        let d : Candidate = image.of in
        let hop = hops (record { from = d.from; prefix = p }) d.attrs (candidate_exported r to p d (filter-Member test (candidates r to p) d image.stands).stands).routed in
        let port : o.port ≡ hop.port.number = ap (λ (y : Offer). y.port) image.is ∙ ap (λ z. option_map_or (λ (y : PortInfo). y.number) z (record { 0 = 0 })) hop.at in
        ap (owner_in r.ports) port ∙ hop.owner ∙ ap (λ (y : Offer). Some y.exporter) (sym image.is)

    by : (to : Pid) (b : Option Candidate) → option_map (λ (c : Candidate). part_with r to p c) b ≡ Some x → owner_in r.ports o.port ≡ Some o.exporter
    by to None e = absurd (cc)
    by to (Some c) e =
        let same : part_with r to p c ≡ x = ap (λ z. unwrap_or z x) e in
        owned to c (subst (λ (y : Part). Member o y.offers) (sym same) n)

-- the kept signatures are those that were kept, or those of fresh tags
retagged_owned : (s : State) (r : Routing) → IsOwnedBy r.ports s.routing.routes s.kept → HopsAreAt r.ports r.routes → IsOwned (retagged s r)
retagged_owned s r is hops = record { apart = is.apart; hops = hops; offers = λ t sig e. kept_own t sig e }
  where
    by : (t : Tag) (sig : List Part) (o : Option Group) → group_with s r t ≡ o → option_map_or (λ (g : Group). Some g.after) o (get s.kept t) ≡ Some sig → OffersAreOwn r.ports sig
    by t sig None at e = is.offers t sig e
    by t sig (Some g) at e =
        let stands : Member g (groups s r) = (find-IsFound (λ x. same_option same_tag (fresh_tag s r x) (Some t)) (groups s r) g at).stands in
        let image = map-Member (group_of s r) (filter (is_changed s r) (carried r)) g (once_of same_group (map (group_of s r) (filter (is_changed s r) (carried r))) g stands) in
        let same : sig ≡ signature r image.of = ap (λ o. unwrap_or o sig) (sym e) ∙ ap (λ (x : Group). x.after) image.is in
        subst (OffersAreOwn r.ports) (sym same) (signature_own r hops image.of)

    kept_own : (t : Tag) (sig : List Part) → get (retagged s r).kept t ≡ Some sig → OffersAreOwn r.ports sig
    kept_own t sig e =
        let f : Tag → Option (List Part) = λ u. cond (is_live (record s { routing = r; tag = tags_after s r }) u) (kept_signature s r u) None in
        let here : f t ≡ Some sig = some_cond (list_any (eq_by_cmp tag_cmp t) (tags s)) (f t) sig
        (sym (get-tabulate tag_cmp tags_total f (λ q k tie. ap f (sym (tag_tie q k tie))) (tags s) t) ∙ e) in
        by t sig (group_with s r t) refl (some_cond (is_live (record s { routing = r; tag = tags_after s r }) t) (kept_signature s r t) sig here)

-- fewer signatures are kept
kept_less : (ports : List PortInfo) (routes : RoutesOf) (kept less : FinMap tag_cmp (List Part)) → ((t : Tag) (sig : List Part) → get less t ≡ Some sig → get kept t ≡ Some sig)
    → IsOwnedBy ports routes kept → IsOwnedBy ports routes less
kept_less ports routes kept less from is = record { apart = is.apart; hops = is.hops; offers = λ t sig e. is.offers t sig (from t sig e) }

settled_owned : (s : State) → IsOwned s → IsOwned (settled s)
settled_owned s is = kept_less s.routing.ports s.routing.routes s.kept (settled s).kept (settled_kept s) is

-- and some with fewer offers
trimmed_owned : (s : State) (who : Pid) (named : List Pid) → IsOwned s → IsOwnedBy s.routing.ports s.routing.routes (trimmed_kept s who named)
trimmed_owned s who named is = record { apart = is.apart; hops = is.hops; offers = λ t sig e. here t sig e }
  where
    by : (t : Tag) (sig : List Part) (o : Option (List Part)) → get s.kept t ≡ o → option_map (trimmed who named) o ≡ Some sig → OffersAreOwn s.routing.ports sig
    by t sig None at e x m o n = absurd (cc)
    by t sig (Some was) at e x m o n =
        let same : trimmed who named was ≡ sig = ap (λ z. unwrap_or z sig) e in
        let image = map-Member (trimmed_part who named) was x (subst (Member x) (sym same) m) in
        is.offers t was at image.of image.stands o ((trimmed_narrower who named image.of).offers o (subst (λ (y : Part). Member o y.offers) image.is n))

    here : (t : Tag) (sig : List Part) → get (trimmed_kept s who named) t ≡ Some sig → OffersAreOwn s.routing.ports sig
    here t sig e =
        let f : Tag → Option (List Part) = λ u. option_map (trimmed who named) (get s.kept u) in
        by t sig (get s.kept t) refl (some_cond (list_any (eq_by_cmp tag_cmp t) (keys s.kept)) (f t) sig
        (sym (get-tabulate tag_cmp tags_total f (λ q k tie. ap f (sym (tag_tie q k tie))) (keys s.kept) t) ∙ e))

-- ---- each line

updated_owned : (s : State) (who : Pid) (read : Result Message Fault) → update_refusal s who read ≡ None → IsOwned s → IsOwned (updated s who read)
updated_owned s who (Err fault) none is = is
updated_owned s who (Ok u) none is =
    let free : attrs_refusal s who u.attrs ≡ None = (neither (attrs_refusal s who u.attrs) _ none).0 in
    retagged_owned s (with_update s.routing who u) is (updated_hops s who u free is)

ruled_owned : (s : State) (who : Pid) (rules : Option (List ExportRule)) → IsOwned s → IsOwned (ruled s who rules)
ruled_owned s who (Some rules) is = retagged_owned s _ is is.hops
ruled_owned s who None is = is

sent_owned : (s : State) (who : Pid) (text : List ℕ) (read : Result Policy Misread) → IsOwned s → IsOwned (sent_by s who text read)
sent_owned s who text (Err fault) is = is
sent_owned s who text (Ok policy) is =
    let names : List Pid = named_in (pid_of s.routing) policy in
    let s0 : State = with_outbound s who text names in
    let later : IsOwned (retagged s0 (with_named s.routing who names)) = retagged_owned s0 (with_named s.routing who names) (trimmed_owned s who names is) is.hops in
    record { apart = later.apart; hops = later.hops; offers = later.offers }

received_owned : (s : State) (who : Pid) (text : List ℕ) (read : Result Policy Misread) → IsOwned s → IsOwned (received_by s who text read)
received_owned s who text (Err fault) is = is
received_owned s who text (Ok policy) is = is

worked_owned : (s : State) (units owed : ℕ) (b : Bool) → IsOwned s → IsOwned (cond b (running (record s { owed = Some (owed - units) })) (merged s))
worked_owned s units owed true is = is
worked_owned s units owed false is =
    let joined : State = running (record s { tag = tabulate prefix_cmp (carried s.routing) (λ p. least_tag s (signature s.routing p)); owed = None }) in settled_owned joined is

after_owned : (s : State) (e : Event) → IsWellFormed e → refusal s e ≡ None → IsOwned s → IsOwned (after s e)
after_owned s Bad formed none is = is
after_owned s (Exchange base size capacity) formed none is = is
after_owned s (DeclaresParticipant name asn id) formed none is = is
after_owned s (DeclaresPort name number ip mac) formed none is =
    free_holds IsOwned s (pid_of s.routing name) (λ who. refused_if (is_port_taken s number ip mac) Clash) (λ who. with_port s (record { owner = who; number = number; ip = ip; mac = mac })) (passes s (DeclaresPort name number ip mac) none).1 (λ who free.
    port_owned s (record { owner = who; number = number; ip = ip; mac = mac }) (not_stopped (is_port_taken s number ip mac) Clash free) formed.2 is)
after_owned s (Update name bytes) formed none is =
    free_holds IsOwned s (pid_of s.routing name) (λ who. update_refusal s who (decoded bytes)) (λ who. updated s who (decoded bytes)) (passes s (Update name bytes) none).1 (λ who free. updated_owned s who (decoded bytes) free is)
after_owned s (Down name) formed none is =
    known_holds IsOwned s (pid_of s.routing name) (λ who. retagged s (without_from s.routing who)) is (λ who. retagged_owned s (without_from s.routing who) is (λ k a e. is.hops k a (not_gone who s.routing.routes k a e)))
after_owned s (Export name text) formed none is =
    known_holds IsOwned s (pid_of s.routing name) (λ who. ruled s who (bound_read s.routing (rules_of_text text))) is (λ who. ruled_owned s who (bound_read s.routing (rules_of_text text)) is)
after_owned s (Outbound name text) formed none is = known_holds IsOwned s (pid_of s.routing name) (λ who. sent_by s who text (policy_of_text text)) is (λ who. sent_owned s who text (policy_of_text text) is)
after_owned s (Inbound name text) formed none is = known_holds IsOwned s (pid_of s.routing name) (λ who. received_by s who text (policy_of_text text)) is (λ who. received_owned s who text (policy_of_text text) is)
after_owned s (Take name count) formed none is =
    known_holds IsOwned s (pid_of s.routing name) (λ who. settled (running (taken s who (take count (pending s who))))) is (λ who. settled_owned (running (taken s who (take count (pending s who)))) is)
after_owned s (Drain name) formed none is =
    known_holds IsOwned s (pid_of s.routing name) (λ who. settled (running (with_told s who (present s who)))) is (λ who. settled_owned (running (with_told s who (present s who))) is)
after_owned s (Arp n bytes) formed none is = known_holds IsOwned s (port_of s n) (λ q. running (with_answer s q bytes)) is (λ q. subst IsOwned (sym (answer_is s q bytes)) is)
after_owned s (Resolve n) formed none is = known_holds IsOwned s (port_of s n) (λ q. running (with_resolved s n (unresolved s q))) is (λ q. subst IsOwned (sym (resolved_is s n (unresolved s q))) is)
after_owned s (Packet n bytes) formed none is = is
after_owned s (Frame n bytes) formed none is = is
after_owned s Recompile formed none is = is
after_owned s (Work units) formed none is = known_holds IsOwned s s.owed (worked s units) is (λ owed. worked_owned s units owed (nat_lt units owed) is)
after_owned s Table formed none is = is

first_owned : IsOwned first
first_owned = record {
  apart = record { numbers = λ q m. absurd m; addresses = λ q m. absurd m; small = λ q m. absurd m };
  hops = λ k a e. absurd (not_there _ a (get-empty route_cmp k) e);
  offers = λ t sig e. absurd (not_there _ sig (get-empty tag_cmp t) e);
}

-- after any legal run of lines that can be written
module _ (es : List Event) (rs : List Reply) (formed : (e : Event) → Member e es → IsWellFormed e) (legal : Legal es rs) where
  abbrev s : State
  s = state_after es rs

  owned : IsOwned s
  owned = written_runs_hold IsOwned IsWellFormed (λ x table is. is) after_owned first_owned es rs formed legal

  -- the number of each port fits in two octets
  pub small_number : (n : PortNo) (q : PortInfo) → port_of s n ≡ Some q → q.number.0 ≤ 65279
  small_number n q at = owned.apart.small q (find-IsFound (with_number n) s.routing.ports q at).stands

  -- the port of each offer that is kept is the exporter's
  pub offers_own : (t : Tag) (sig : List Part) → get s.kept t ≡ Some sig → OffersAreOwn s.routing.ports sig
  offers_own = owned.offers
