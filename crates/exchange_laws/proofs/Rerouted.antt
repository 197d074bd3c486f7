-- What a line that changes the routes leaves: the routes, where they come from, and that there are enough tags.
use Rattle.std.proofs.Common.{◌≡◌, ℕ, ◌<◌, ◌⊎◌, Bool, true, false, cond, ◌&&◌, nat_eq, nat_lt, not, List, [], ◌∷◌, length, sym, ap, subst, ◌∙◌, refl, inl, inr}
use Rattle.std.specs.Prelude.{Option, Some, None, Result, Ok, Err}
use Rattle.std.specs.FinMap.{FinMap, get, get-insert, get-remove, insert, remove}
use Rattle.std.specs.Ordering.{eq_by_cmp}
use Rattle.std.proofs.lemmas.Bool.{and_parts, ltb-false, not-false}
use Rattle.events.proofs.Reached.{declared_pid, set_length}
use Rattle.events.specs.After.{after, bound_read, ruled, updated, with_known, with_rules, with_update, without_from}
use Rattle.events.specs.Refusals.{attrs_refusal, bound_refusal, has_next_hop, if_known, is_placed, or_else, refusal, refusal_in_place, rules_refusal, suits_job, tags_refusal, text_refusal, refused_if, update_refusal}
use Rattle.events.specs.State.{State}
use Rattle.events.specs.Tags.{free_tags, groups, retagged}
use Rattle.events.specs.declared.Event.{Event}
use Rattle.events.specs.declared.Event.TheVariants.{Bad, Exchange, Participant, Port, Update, Down, Export, Outbound, Inbound, Take, Drain, Arp, Resolve, Packet, Frame, Recompile, Work, Table}
use Rattle.events.specs.declared.Refusal.{Refusal}
use Rattle.events.specs.declared.Refusal.TheVariants.{Misplaced, NextHop, NoNextHop, Oversize, TextLong}
use Rattle.exchange_laws.proofs.ToldAnew.{get_retained}
use Rattle.exchange_laws.specs.Fresh.{HasEnoughTags}
use Rattle.exchange_laws.specs.Rerouting.{is_rerouting}
use Rattle.exchange_laws.specs.Rules.{IsDeclaredAlike}
use Rattle.net_types.proofs.OrderLemmas.{routes_total}
use Rattle.net_types.proofs.TieLemmas.{route_cmp-IsAntisymmetric, route_tie}
use Rattle.net_types.specs.Changes.{announced_by, announced_with, withdrawn}
use Rattle.net_types.specs.Changes as changes
use Rattle.net_types.specs.ExportReading.{rules_of_text}
use Rattle.net_types.specs.ExportTexts.{bound}
use Rattle.net_types.specs.Exports.{Routing, pid_of, route}
use Rattle.net_types.specs.Keys.{RouteKey, route_cmp}
use Rattle.net_types.specs.UpdateReading.{decoded}
use Rattle.net_types.specs.Updates.{is_oversize}
use Rattle.net_types.specs.declared.address.Pid.{Pid}
use Rattle.net_types.specs.declared.export.ExportRule.{ExportRule}
use Rattle.net_types.specs.declared.named_rule.NamedRule.{NamedRule}
use Rattle.net_types.specs.declared.prefix.Prefix.{Prefix}
use Rattle.net_types.specs.declared.route.Attrs.{Attrs}
use Rattle.net_types.specs.declared.update.Fault.{Fault}
use Rattle.net_types.specs.declared.update.Update.{Update as Message}
use Rattle.std.proofs.lemmas.Option.{same_Some}

-- ---- no refusal

pub not_stopped : (b : Bool) (why : Refusal) → refused_if b why ≡ None → b ≡ false
not_stopped true why e = absurd (cc)
not_stopped false why e = refl

pub neither : (a b : Option Refusal) → or_else a b ≡ None → (a ≡ None) × (b ≡ None)
neither None b e = (refl, e)
neither (Some x) b e = absurd (cc)

pub in_place : (b : Bool) (o : Option Refusal) → cond b o (Some Misplaced) ≡ None → (b ≡ true) × (o ≡ None)
in_place true o e = (refl, e)
in_place false o e = absurd (cc)

-- what no refusal stops is in place, and none of its own stops it
pub passes : (s : State) (e : Event) → refusal s e ≡ None → (is_placed s.phase e ≡ true) × (refusal_in_place s e ≡ None)
passes s e none =
    let there = in_place (suits_job s.owed e && is_placed s.phase e) (refusal_in_place s e) none in
    ((and_parts (suits_job s.owed e) (is_placed s.phase e) there.0).1, there.1)

pub known : {X : Type 0} (o : Option X) (f : X → Option Refusal) → if_known o f ≡ None → (x : X) × (o ≡ Some x) × (f x ≡ None)
known None f e = absurd (cc)
known (Some x) f e = (x, refl, e)

pub enough_tags : (s : State) (r : Routing) → tags_refusal s r ≡ None → HasEnoughTags s r
enough_tags s r e = ltb-false (length (free_tags s)) (length (groups s r)) (not_stopped (nat_lt (length (free_tags s)) (length (groups s r))) (NoNextHop (length (groups s r)) (length (free_tags s))) e)

-- ---- routes

abbrev RoutesOf : Type 0
RoutesOf = FinMap route_cmp Attrs

-- a route that stays was there
pub still_there : (from : Pid) (ps : List Prefix) (m : RoutesOf) (k : RouteKey) (a : Attrs) → get (withdrawn from ps m) k ≡ Some a → get m k ≡ Some a
still_there from [] m k a e = e
still_there from (p ∷ ps) m k a e =
    let key : RouteKey = record { from = from; prefix = p } in
    by (eq_by_cmp route_cmp k key) (sym (get-remove routes_total m key k) ∙ still_there from ps (remove m key) k a e)
  where
    by : (b : Bool) → cond b None (get m k) ≡ Some a → get m k ≡ Some a
    by true is = absurd (cc)
    by false is = is

-- a route that is announced is one that was there, or the announcer's
set_or_there : (from : Pid) (attrs : Attrs) (ps : List Prefix) (m : RoutesOf) (k : RouteKey) (a : Attrs) → get (announced_by from attrs ps m) k ≡ Some a → (get m k ≡ Some a) ⊎ ((k.from ≡ from) × (attrs ≡ a))
set_or_there from attrs [] m k a e = inl e
set_or_there from attrs (p ∷ ps) m k a e =
    let key : RouteKey = record { from = from; prefix = p } in
    elim (set_or_there from attrs ps (insert m key attrs) k a e) [
      | inl there ↦ by (eq_by_cmp route_cmp k key) refl (sym (get-insert routes_total m key attrs k) ∙ there)
      | inr own ↦ inr own
    ]
  where
    by : (b : Bool) → eq_by_cmp route_cmp k (record { from = from; prefix = p }) ≡ b → cond b (Some attrs) (get m k) ≡ Some a → (get m k ≡ Some a) ⊎ ((k.from ≡ from) × (attrs ≡ a))
    by true is e = inr (ap (λ (x : RouteKey). x.from) (route_tie k (record { from = from; prefix = p }) is), same_Some attrs a e)
    by false is e = inl e

updated_from : (from : Pid) (u : Message) (m : RoutesOf) (k : RouteKey) (a : Attrs) → get (changes.updated from u m) k ≡ Some a → (get m k ≡ Some a) ⊎ ((k.from ≡ from) × (u.attrs ≡ Some a))
updated_from from u m k a e = by u.attrs refl e
  where
    by : (o : Option Attrs) → u.attrs ≡ o → get (announced_with from o u.announced (withdrawn from u.withdrawn m)) k ≡ Some a → (get m k ≡ Some a) ⊎ ((k.from ≡ from) × (u.attrs ≡ Some a))
    by None is e = inl (still_there from u.withdrawn m k a e)
    by (Some attrs) is e = elim (set_or_there from attrs u.announced (withdrawn from u.withdrawn m) k a e) [
      | inl there ↦ inl (still_there from u.withdrawn m k a there)
      | inr own ↦ inr (own.0, is ∙ ap Some own.1)
    ]

pub not_gone : (from : Pid) (m : RoutesOf) (k : RouteKey) (a : Attrs) → get (changes.without_routes from m) k ≡ Some a → get m k ≡ Some a
not_gone from m k a e = by (not (nat_eq k.from.0 from.0)) (sym (get_retained route_cmp routes_total route_cmp-IsAntisymmetric m (λ (x : RouteKey). not (nat_eq x.from.0 from.0)) k) ∙ e)
  where
    by : (b : Bool) → cond b (get m k) None ≡ Some a → get m k ≡ Some a
    by true is = is
    by false is = absurd (cc)

-- ---- the line

-- a participant's route has its NEXT_HOP at one of its ports
pub record HasOwnHop (s : State) (who : Pid) (a : Attrs) : Type 0 where
  pub declared : who.0 < length s.routing.participants
  pub hop : has_next_hop s who a.next_hop ≡ true

-- the routes after a line, for which there are enough tags, and by which the policies name whom they named; each was there,
-- or its NEXT_HOP was looked at
pub record Rerouted (s : State) (e : Event) : Type 0 where
  pub routing : Routing
  pub leaves : after s e ≡ retagged s routing
  pub alike : IsDeclaredAlike s.routing routing
  pub enough : HasEnoughTags s routing
  pub rules : length routing.rules ≡ length s.routing.rules
  pub named : routing.named ≡ s.routing.named
  pub each : (who : Pid) (p : Prefix) (a : Attrs) → route routing who p ≡ Some a → (route s.routing who p ≡ Some a) ⊎ HasOwnHop s who a

pub update_leaves : (s : State) (name bytes : List ℕ) (who : Pid) (u : Message) → pid_of s.routing name ≡ Some who → decoded bytes ≡ Ok u → after s (Update name bytes) ≡ retagged s (with_update s.routing who u)
update_leaves s name bytes who u declared read = ap (λ o. with_known s o (λ w. updated s w (decoded bytes))) declared ∙ ap (updated s who) read

pub down_leaves : (s : State) (name : List ℕ) (who : Pid) → pid_of s.routing name ≡ Some who → after s (Down name) ≡ retagged s (without_from s.routing who)
down_leaves s name who declared = ap (λ o. with_known s o (λ w. retagged s (without_from s.routing w))) declared

pub export_leaves : (s : State) (name text : List ℕ) (who : Pid) (rules : List ExportRule) → pid_of s.routing name ≡ Some who → bound_read s.routing (rules_of_text text) ≡ Some rules
    → after s (Export name text) ≡ retagged s (with_rules s.routing who rules)
export_leaves s name text who rules declared read = ap (λ o. with_known s o (λ w. ruled s w (bound_read s.routing (rules_of_text text)))) declared ∙ ap (ruled s who) read

update_case : (s : State) (name bytes : List ℕ) (who : Pid) → pid_of s.routing name ≡ Some who → (o : Result Message Fault) → decoded bytes ≡ o → update_refusal s who o ≡ None → Rerouted s (Update name bytes)
update_case s name bytes who declared (Err fault) read none = absurd (cc)
update_case s name bytes who declared (Ok u) read none =
    let both = neither (attrs_refusal s who u.attrs) (or_else (refused_if (is_oversize u) Oversize) (tags_refusal s (with_update s.routing who u))) none in record {
      routing = with_update s.routing who u;
      leaves = update_leaves s name bytes who u declared read;
      alike = record { participants = refl; ports = refl };
      enough = enough_tags s (with_update s.routing who u) (neither (refused_if (is_oversize u) Oversize) (tags_refusal s (with_update s.routing who u)) both.1).1;
      rules = refl;
      named = refl;
      each = λ w p a is. elim (updated_from who u s.routing.routes (record { from = w; prefix = p }) a is) [
        | inl there ↦ inl there
        | inr own ↦ inr (subst (λ x. HasOwnHop s x a) (sym own.0) (record { declared = declared_pid s.routing name who declared; hop = hop a (ap (attrs_refusal s who) (sym own.1) ∙ both.0) }))
      ];
    }
  where
    hop : (a : Attrs) → attrs_refusal s who (Some a) ≡ None → has_next_hop s who a.next_hop ≡ true
    hop a none = not-false (has_next_hop s who a.next_hop) (not_stopped (not (has_next_hop s who a.next_hop)) NextHop (neither _ (refused_if (not (has_next_hop s who a.next_hop)) NextHop) none).1)

export_case : (s : State) (name text : List ℕ) (who : Pid) → pid_of s.routing name ≡ Some who → (o : Result (List NamedRule) ℕ) → rules_of_text text ≡ o → rules_refusal s who o ≡ None → Rerouted s (Export name text)
export_case s name text who declared (Err at) read none = absurd (cc)
export_case s name text who declared (Ok named) read none = by (bound (pid_of s.routing) named) refl none
  where
    by : (o : Option (List ExportRule)) → bound (pid_of s.routing) named ≡ o → bound_refusal s who o ≡ None → Rerouted s (Export name text)
    by None is none = absurd (cc)
    by (Some rules) is none = record {
      routing = with_rules s.routing who rules;
      leaves = export_leaves s name text who rules declared (ap (bound_read s.routing) read ∙ is);
      alike = record { participants = refl; ports = refl };
      enough = enough_tags s (with_rules s.routing who rules) none;
      rules = set_length s.routing.rules who.0 rules;
      named = refl;
      each = λ w p a there. inl there;
    }

text_passes : (s : State) (who : Pid) (text : List ℕ) (b : Bool) → cond b (Some TextLong) (rules_refusal s who (rules_of_text text)) ≡ None → rules_refusal s who (rules_of_text text) ≡ None
text_passes s who text true none = absurd (cc)
text_passes s who text false none = none

-- each line that changes the routes leaves such routes, where no refusal stops it
pub rerouted : (s : State) (e : Event) → is_rerouting e ≡ true → refusal s e ≡ None → Rerouted s e
rerouted s (Update name bytes) building none =
    let who = known (pid_of s.routing name) (λ w. update_refusal s w (decoded bytes)) (passes s (Update name bytes) none).1 in
    update_case s name bytes who.0 who.1 (decoded bytes) refl who.2
rerouted s (Down name) building none =
    let who = known (pid_of s.routing name) (λ w. tags_refusal s (without_from s.routing w)) (passes s (Down name) none).1 in record {
      routing = without_from s.routing who.0;
      leaves = down_leaves s name who.0 who.1;
      alike = record { participants = refl; ports = refl };
      enough = enough_tags s (without_from s.routing who.0) who.2;
      rules = refl;
      named = refl;
      each = λ w p a is. inl (not_gone who.0 s.routing.routes (record { from = w; prefix = p }) a is);
    }
rerouted s (Export name text) building none =
    let who = known (pid_of s.routing name) (λ w. text_refusal s w text) (passes s (Export name text) none).1 in
    export_case s name text who.0 who.1 (rules_of_text text) refl (text_passes s who.0 text (nat_lt 8192 (length text)) who.2)
rerouted s Bad building none = absurd (cc)
rerouted s (Exchange base size capacity) building none = absurd (cc)
rerouted s (Participant name asn id) building none = absurd (cc)
rerouted s (Port name number ip mac) building none = absurd (cc)
rerouted s (Outbound name text) building none = absurd (cc)
rerouted s (Inbound name text) building none = absurd (cc)
rerouted s (Take name count) building none = absurd (cc)
rerouted s (Drain name) building none = absurd (cc)
rerouted s (Arp port bytes) building none = absurd (cc)
rerouted s (Resolve port) building none = absurd (cc)
rerouted s (Packet port bytes) building none = absurd (cc)
rerouted s (Frame port bytes) building none = absurd (cc)
rerouted s Recompile building none = absurd (cc)
rerouted s (Work units) building none = absurd (cc)
rerouted s Table building none = absurd (cc)
