-- Each route of a state that a legal run reaches can be told in a message, and so can whatever is present.
use Rattle.std.proofs.Common.{◌≡◌, ◌⊎◌, ℕ, ◌+◌, ◌-◌, ◌/◌, ◌≤◌, Bool, true, false, cond, nat_lt, List, [], ◌∷◌, length, take, sym, ap, subst, ◌∙◌, refl, inl, inr, arith}
use Rattle.std.specs.Prelude.{Option, Some, None, Result, Ok, Err, min}
use Rattle.std.specs.FinMap.{FinMap, get, get-empty, get-insert, insert}
use Rattle.std.specs.List.{list_any}
use Rattle.std.specs.Option.{option_and_then, option_map}
use Rattle.std.specs.Ordering.{eq_by_cmp}
use Rattle.std.proofs.lemmas.Bool.{false_from_ne_true, ltb-false}
use Rattle.std.proofs.lemmas.List.{length-append, length-take}
use Rattle.events.proofs.Candidates.{best_Member, candidate_exported}
use Rattle.events.specs.After.{after, bound_read, merged, next, received_by, ruled, running, sent_by, settled, taken, updated, with_port, with_told, with_update, without_from, worked}
use Rattle.events.specs.Fits.{FitsBy, IsAccepted, Passes, advert, adverts, is_building}
use Rattle.events.specs.Legal.{Legal, state_after}
use Rattle.events.specs.Pending.{pending}
use Rattle.events.specs.Refusals.{attrs_refusal, refusal, refused_if, tags_refusal, update_refusal}
use Rattle.events.specs.Resolving.{tag_address, unresolved, with_answer, with_resolved}
use Rattle.events.specs.State.{State, port_of, present, present_entry}
use Rattle.events.specs.Tags.{retagged}
use Rattle.events.specs.declared.Entry.{Entry}
use Rattle.events.specs.declared.Event.{Event}
use Rattle.events.specs.declared.Event.TheVariants.{Bad, Exchange, Participant, Port, Update, Down, Export, Outbound, Inbound, Take, Drain, Arp, Resolve, Packet, Frame, Recompile, Work, Table}
use Rattle.events.specs.declared.Refusal.{Refusal}
use Rattle.events.specs.declared.Refusal.TheVariants.{Oversize}
use Rattle.events.specs.declared.Reply.{Reply}
use Rattle.exchange_laws.proofs.Rerouted.{neither, not_gone, not_stopped, passes, still_there}
use Rattle.grammar.specs.TextReading.{Fault as Misread}
use Rattle.net_types.proofs.FindLemmas.{any_at, not_there}
use Rattle.net_types.proofs.MapLemmas.{get-tabulate}
use Rattle.net_types.proofs.OrderLemmas.{prefix_tie, prefixes_total, routes_total}
use Rattle.net_types.proofs.SetLemmas.{map-Member}
use Rattle.net_types.proofs.TieLemmas.{route_tie}
use Rattle.net_types.specs.Changes as changes
use Rattle.net_types.specs.Changes.{announced_by, announced_with, withdrawn}
use Rattle.net_types.specs.ExportReading.{rules_of_text}
use Rattle.net_types.specs.Exports.{pid_of, route}
use Rattle.net_types.specs.Keys.{RouteKey, prefix_cmp, route_cmp}
use Rattle.net_types.specs.Octets.{address_octets}
use Rattle.net_types.specs.Policies.{Policy}
use Rattle.net_types.specs.PolicyReading.{policy_of_text}
use Rattle.net_types.specs.Routes.{Candidate, announced, best}
use Rattle.net_types.specs.Sets.{Member}
use Rattle.net_types.specs.UpdateReading.{decoded}
use Rattle.net_types.specs.Updates.{announcement, attrs_octets, is_oversize, is_oversize_with, prefix_octets, update_message, withdrawal}
use Rattle.net_types.specs.declared.address.Ip.{Ip}
use Rattle.net_types.specs.declared.address.Pid.{Pid}
use Rattle.net_types.specs.declared.address.Tag.{Tag}
use Rattle.net_types.specs.declared.export.ExportRule.{ExportRule}
use Rattle.net_types.specs.declared.prefix.Prefix.{Prefix}
use Rattle.net_types.specs.declared.route.Attrs.{Attrs}
use Rattle.net_types.specs.declared.update.Fault.{Fault}
use Rattle.net_types.specs.declared.update.Update.{Update as Message}
use Rattle.run_laws.proofs.Answered.{answered}
use Rattle.run_laws.proofs.Carried.{runs_hold}
use Rattle.run_laws.specs.Promises.{AdvertsFitMessages}
use Rattle.run_laws.proofs.Known.{answer_is, free_holds, known_holds, resolved_is}
use Rattle.std.proofs.lemmas.Option.{same_Some}
use Rattle.exchange_laws.proofs.Lists.{clash}

-- ---- messages

-- a message has 23 octets beside its parts
message_length : (gone attrs told : List ℕ) → length (update_message gone attrs told) ≡ 23 + (length gone + length attrs + length told)
message_length gone attrs told = simp length-append (omega arith)

-- other attributes take as many octets where they differ in NEXT_HOP alone
any_attrs : (a : Attrs) (hop : Ip) → length (attrs_octets (record a { next_hop = hop })) ≡ length (attrs_octets a)
any_attrs a hop = simp length-append refl

-- so the length of an announcement doesn't depend on its NEXT_HOP
any_hop : (p : Prefix) (a : Attrs) (hop : Ip) → length (announcement p a hop) ≡ length (announcement p a a.next_hop)
any_hop p a hop =
    let one : length (announcement p a hop) ≡ 23 + (0 + length (attrs_octets (record a { next_hop = hop })) + length (prefix_octets p)) = message_length [] (attrs_octets (record a { next_hop = hop })) (prefix_octets p) in
    let two : length (announcement p a a.next_hop) ≡ 23 + (0 + length (attrs_octets a) + length (prefix_octets p)) = message_length [] (attrs_octets a) (prefix_octets p) in
    one ∙ ap (λ n. 23 + (0 + n + length (prefix_octets p))) (any_attrs a hop) ∙ sym two

-- a withdrawal of one prefix is short
short_withdrawal : (p : Prefix) → length (withdrawal p) ≤ 4096
short_withdrawal p =
    let octets : length (take ((p.len + 7) / 8) (address_octets p.address)) ≡ min ((p.len + 7) / 8) 4 = length-take ((p.len + 7) / 8) (address_octets p.address) in
    let few : length (take ((p.len + 7) / 8) (address_octets p.address)) ≤ 4 = omega arith in
    let own : length (prefix_octets p) ≡ 1 + length (take ((p.len + 7) / 8) (address_octets p.address)) = omega arith in
    let whole : length (withdrawal p) ≡ 23 + (length (prefix_octets p) + 0 + 0) = message_length (prefix_octets p) [] [] in
    omega arith

-- ---- routes

-- each route can be told
abbrev RoutesFit : State → Type 0
RoutesFit s = (who : Pid) (p : Prefix) (a : Attrs) → route s.routing who p ≡ Some a → length (announcement p a a.next_hop) ≤ 4096

abbrev pub RoutesOf : Type 0
RoutesOf = FinMap route_cmp Attrs

-- a route that is there after an announcement was there, or is the announcer's, of the announced prefixes
pub set_or_there : (from : Pid) (attrs : Attrs) (ps : List Prefix) (m : RoutesOf) (k : RouteKey) (a : Attrs) → get (announced_by from attrs ps m) k ≡ Some a → (get m k ≡ Some a) ⊎ ((k.from ≡ from) × (attrs ≡ a) × Member k.prefix ps)
set_or_there from attrs [] m k a e = inl e
set_or_there from attrs (p ∷ ps) m k a e =
    let key : RouteKey = record { from = from; prefix = p } in
    elim (set_or_there from attrs ps (insert m key attrs) k a e) [
      | inl there ↦ by (eq_by_cmp route_cmp k key) refl (sym (get-insert routes_total m key attrs k) ∙ there)
      | inr new ↦ inr (new.0, new.1, inr new.2)
    ]
  where
    by : (b : Bool) → eq_by_cmp route_cmp k (record { from = from; prefix = p }) ≡ b → cond b (Some attrs) (get m k) ≡ Some a → (get m k ≡ Some a) ⊎ ((k.from ≡ from) × (attrs ≡ a) × Member k.prefix (p ∷ ps))
    by true is e =
        let same : k ≡ record { from = from; prefix = p } = route_tie k (record { from = from; prefix = p }) is in
        inr (ap (λ (x : RouteKey). x.from) same, same_Some attrs a e, inl (ap (λ (x : RouteKey). x.prefix) same))
    by false is e = inl e

-- an update that isn't refused announces what can be told
announced_fit : (a : Attrs) (ps : List Prefix) → list_any (λ p. nat_lt 4096 (length (announcement p a a.next_hop))) ps ≡ false → (p : Prefix) → Member p ps → length (announcement p a a.next_hop) ≤ 4096
announced_fit a ps none p m =
    ltb-false 4096 (length (announcement p a a.next_hop)) (false_from_ne_true (nat_lt 4096 (length (announcement p a a.next_hop))) (λ long.
    clash (any_at (λ q. nat_lt 4096 (length (announcement q a a.next_hop))) ps p m long) none))

update_fits : (s : State) (who : Pid) (u : Message) → is_oversize u ≡ false → RoutesFit s → (w : Pid) (p : Prefix) (a : Attrs) → get (changes.updated who u s.routing.routes) (record { from = w; prefix = p }) ≡ Some a
    → length (announcement p a a.next_hop) ≤ 4096
update_fits s who u small routes w p a e = by u.attrs small e
  where
    key : RouteKey
    key = record { from = w; prefix = p }

    by : (o : Option Attrs) → is_oversize_with o u.announced ≡ false → get (announced_with who o u.announced (withdrawn who u.withdrawn s.routing.routes)) key ≡ Some a → length (announcement p a a.next_hop) ≤ 4096
    by None small e = routes w p a (still_there who u.withdrawn s.routing.routes key a e)
    by (Some attrs) small e = elim (set_or_there who attrs u.announced (withdrawn who u.withdrawn s.routing.routes) key a e) [
      | inl there ↦ routes w p a (still_there who u.withdrawn s.routing.routes key a there)
      | inr new ↦ subst (λ (x : Attrs). length (announcement p x x.next_hop) ≤ 4096) new.1 (announced_fit attrs u.announced small p new.2)
    ]

-- ---- lines

updated_fits : (s : State) (who : Pid) (o : Result Message Fault) → update_refusal s who o ≡ None → RoutesFit s → RoutesFit (updated s who o)
updated_fits s who (Err fault) none routes = absurd (cc)
updated_fits s who (Ok u) none routes =
    let size : is_oversize u ≡ false =
    not_stopped (is_oversize u) Oversize (neither (refused_if (is_oversize u) Oversize) (tags_refusal s (with_update s.routing who u)) (neither (attrs_refusal s who u.attrs) _ none).1).0 in
    update_fits s who u size routes

ruled_fits : (s : State) (who : Pid) (rules : Option (List ExportRule)) → RoutesFit s → RoutesFit (ruled s who rules)
ruled_fits s who (Some rules) routes = routes
ruled_fits s who None routes = routes

sent_fits : (s : State) (who : Pid) (text : List ℕ) (read : Result Policy Misread) → RoutesFit s → RoutesFit (sent_by s who text read)
sent_fits s who text (Ok p) routes = routes
sent_fits s who text (Err fault) routes = routes

received_fits : (s : State) (who : Pid) (text : List ℕ) (read : Result Policy Misread) → RoutesFit s → RoutesFit (received_by s who text read)
received_fits s who text (Ok p) routes = routes
received_fits s who text (Err fault) routes = routes

worked_fits : (s : State) (units owed : ℕ) (b : Bool) → RoutesFit s → RoutesFit (cond b (running (record s { owed = Some (owed - units) })) (merged s))
worked_fits s units owed true routes = routes
worked_fits s units owed false routes = routes

after_fits : (s : State) (e : Event) → refusal s e ≡ None → RoutesFit s → RoutesFit (after s e)
after_fits s Bad none routes = routes
after_fits s (Exchange base size capacity) none routes = routes
after_fits s (Participant name asn id) none routes = routes
after_fits s (Port name number ip mac) none routes = known_holds RoutesFit s (pid_of s.routing name) (λ who. with_port s (record { owner = who; number = number; ip = ip; mac = mac })) routes (λ who. routes)
after_fits s (Update name bytes) none routes =
    free_holds RoutesFit s (pid_of s.routing name) (λ who. update_refusal s who (decoded bytes)) (λ who. updated s who (decoded bytes)) (passes s (Update name bytes) none).1 (λ who free. updated_fits s who (decoded bytes) free routes)
after_fits s (Down name) none routes =
    known_holds RoutesFit s (pid_of s.routing name) (λ who. retagged s (without_from s.routing who)) routes (λ who w p a e. routes w p a (not_gone who s.routing.routes (record { from = w; prefix = p }) a e))
after_fits s (Export name text) none routes =
    known_holds RoutesFit s (pid_of s.routing name) (λ who. ruled s who (bound_read s.routing (rules_of_text text))) routes (λ who. ruled_fits s who (bound_read s.routing (rules_of_text text)) routes)
after_fits s (Outbound name text) none routes = known_holds RoutesFit s (pid_of s.routing name) (λ who. sent_by s who text (policy_of_text text)) routes (λ who. sent_fits s who text (policy_of_text text) routes)
after_fits s (Inbound name text) none routes = known_holds RoutesFit s (pid_of s.routing name) (λ who. received_by s who text (policy_of_text text)) routes (λ who. received_fits s who text (policy_of_text text) routes)
after_fits s (Take name count) none routes = known_holds RoutesFit s (pid_of s.routing name) (λ who. settled (running (taken s who (take count (pending s who))))) routes (λ who. routes)
after_fits s (Drain name) none routes = known_holds RoutesFit s (pid_of s.routing name) (λ who. settled (running (with_told s who (present s who)))) routes (λ who. routes)
after_fits s (Arp n bytes) none routes = known_holds RoutesFit s (port_of s n) (λ q. running (with_answer s q bytes)) routes (λ q. subst RoutesFit (sym (answer_is s q bytes)) routes)
after_fits s (Resolve n) none routes = known_holds RoutesFit s (port_of s n) (λ q. running (with_resolved s n (unresolved s q))) routes (λ q. subst RoutesFit (sym (resolved_is s n (unresolved s q))) routes)
after_fits s (Packet n bytes) none routes = routes
after_fits s (Frame n bytes) none routes = routes
after_fits s Recompile none routes = routes
after_fits s (Work units) none routes = known_holds RoutesFit s s.owed (worked s units) routes (λ owed. worked_fits s units owed (nat_lt units owed) routes)
after_fits s Table none routes = routes

runs_fit : (es : List Event) (rs : List Reply) → Legal es rs → RoutesFit (state_after es rs)
runs_fit = runs_hold RoutesFit (record {
  start = λ who p a e. absurd (not_there _ a (get-empty {X = Attrs} route_cmp (record { from = who; prefix = p })) e);
  tables = λ s table routes. routes;
  lines = after_fits;
})

-- ---- adverts

-- what is present is told with the attributes of a route
present_route : (s : State) (who : Pid) (p : Prefix) (entry : Entry) → get (present s who) p ≡ Some entry → (from : Pid) × (route s.routing from p ≡ Some entry.attrs)
present_route s who p entry e =
    listed (list_any (eq_by_cmp prefix_cmp p) (announced s.routing))
    (sym (get-tabulate prefix_cmp prefixes_total (present_entry s who) (λ q k tie. ap (present_entry s who) (sym (prefix_tie q k tie))) (announced s.routing) p) ∙ e)
  where
    chosen : (b : Option Candidate) (t : Option Tag) → best s.routing who p ≡ b → option_and_then (λ (c : Candidate). option_map (λ u. let x : Entry = record { attrs = c.attrs; tag = u } in x) t) b ≡ Some entry
        → (from : Pid) × (route s.routing from p ≡ Some entry.attrs)
    chosen None t is e = absurd (cc)
    chosen (Some c) None is e = absurd (cc)
    chosen (Some c) (Some u) is e = (c.from, (candidate_exported s.routing who p c (best_Member s.routing who p c is)).routed ∙ ap (option_map (λ (x : Entry). x.attrs)) e)

    listed : (b : Bool) → cond b (present_entry s who p) None ≡ Some entry → (from : Pid) × (route s.routing from p ≡ Some entry.attrs)
    listed true is = chosen (best s.routing who p) (get s.tag p) refl is
    listed false is = absurd (cc)

advert_fits : (s : State) → RoutesFit s → (who : Pid) (p : Prefix) (o : Option Entry) → get (present s who) p ≡ o → length (advert s p o) ≤ 4096
advert_fits s routes who p None is = short_withdrawal p
advert_fits s routes who p (Some entry) is =
    let told = present_route s who p entry is in
    subst (λ n. n ≤ 4096) (sym (any_hop p entry.attrs (tag_address s entry.tag))) (routes told.0 p entry.attrs told.1)

adverts_fit : (s : State) → RoutesFit s → (who : Pid) (ps : List Prefix) (message : List ℕ) → Member message (adverts s who ps) → length message ≤ 4096
adverts_fit s routes who ps message m =
    let image = map-Member (λ p. advert s p (get (present s who) p)) ps message m in
    subst (λ x. length x ≤ 4096) (sym image.is) (advert_fits s routes who image.of (get (present s who) image.of) refl)

-- ---- replies

module _ (s : State) (routes : RoutesFit s) (e : Event) (r : Reply) (message : List ℕ) (m : Member message r.adverts) where
  none_told : {A : Type 0} (x : Reply) → r ≡ x → x.adverts ≡ [] → A
  none_told x is none = let nothing : Member message [] = subst (λ ms. Member message ms) (ap (λ (y : Reply). y.adverts) is ∙ none) m in absurd nothing

  accepted_fits : IsAccepted s e r → length message ≤ 4096
  accepted_fits is = let a = answered s e r (next s e r) is.answer in adverts_fit s routes a.who a.prefixes message (subst (λ ms. Member message ms) a.tells m)

  passed_fits : (b : Bool) → Passes b s e r → length message ≤ 4096
  passed_fits false is = accepted_fits is
  passed_fits true is = elim is [ inl there ↦ accepted_fits there | inr full ↦ none_told _ full.head refl ]

  reply_fits : (o : Option Refusal) → FitsBy o s e r → length message ≤ 4096
  reply_fits (Some why) is = none_told _ is refl
  reply_fits None is = passed_fits (is_building e) is

pub adverts_fit_messages : AdvertsFitMessages
adverts_fit_messages es rs legal e r fits message m = reply_fits (state_after es rs) (runs_fit es rs legal) e r message m (refusal (state_after es rs) e) fits
