-- A signature that is trimmed by whom a policy names is that of the routing in which its participant names of those that it
-- named before the ones that still are.
use Rattle.std.proofs.Common.{◌≡◌, ℕ, zero, suc, Bool, true, false, cond, nat_eq, List, [], ◌∷◌, filter, map, sym, ap, ◌∙◌, refl}
use Rattle.std.specs.Prelude.{Option, Some, None, slice_get, slice_set, unwrap_or}
use Rattle.std.specs.List.{cons_option, filter_map}
use Rattle.std.specs.Option.{option_map}
use Rattle.std.proofs.lemmas.Bool.{eq-eqb, eqb-true}
use Rattle.events.proofs.Routed.{part_with}
use Rattle.events.specs.After.{with_named}
use Rattle.exchange_laws.proofs.Lists.{clash}
use Rattle.exchange_laws.specs.Editing.{both}
use Rattle.net_types.proofs.PassLemmas.{counts_both, filter-map, filter_twice}
use Rattle.net_types.specs.Exports.{Routing, named_by}
use Rattle.net_types.specs.Routes.{Candidate, best, candidates, pids}
use Rattle.net_types.specs.Signatures.{counts, offer, offers, part, signature, trimmed, trimmed_part}
use Rattle.net_types.specs.declared.address.Pid.{Pid}
use Rattle.net_types.specs.declared.prefix.Prefix.{Prefix}
use Rattle.net_types.specs.declared.route.Offer.{Offer}

-- ---- lists

map_cons : {B C : Type 0} (g : B → C) (o : Option B) (ys : List B) → map g (cons_option o ys) ≡ cons_option (option_map g o) (map g ys)
map_cons g None ys = refl
map_cons g (Some y) ys = refl

-- what a function makes of what another one gives
map_given : {A B C : Type 0} (g : B → C) (f : A → Option B) (h : A → Option C) → ((x : A) → option_map g (f x) ≡ h x) → (xs : List A) → map g (filter_map f xs) ≡ filter_map h xs
map_given g f h each [] = refl
map_given g f h each (x ∷ xs) = map_cons g (f x) (filter_map f xs) ∙ (λ i. cons_option (each x i) (map_given g f h each xs i))

-- another place keeps what stands there
pub other_place : {A : Type 0} (xs : List A) (k j : ℕ) (x : A) → (k ≡ j → ⊥) → slice_get (slice_set xs k x) j ≡ slice_get xs j
other_place [] k j x other = refl
other_place (y ∷ xs) zero zero x other = absurd (other refl)
other_place (y ∷ xs) zero (suc j) x other = refl
other_place (y ∷ xs) (suc k) zero x other = refl
other_place (y ∷ xs) (suc k) (suc j) x other = other_place xs k j x (λ e. other (ap suc e))

-- what is trimmed at a place stands there, also where there is no such place
trimmed_place : (xss : List (List Pid)) (k : ℕ) (named : List Pid) → unwrap_or (slice_get (slice_set xss k (both (unwrap_or (slice_get xss k) []) named)) k) [] ≡ both (unwrap_or (slice_get xss k) []) named
trimmed_place [] zero named = refl
trimmed_place [] (suc k) named = refl
trimmed_place (xs ∷ xss) zero named = refl
trimmed_place (xs ∷ xss) (suc k) named = trimmed_place xss k named

-- ---- the signature

module _ (r : Routing) (who : Pid) (named : List Pid) where
  abbrev pub r1 : Routing
  r1 = with_named r who (both (named_by r who) named)

  -- another participant names whom it named
  named_other : (to : Pid) → nat_eq to.0 who.0 ≡ false → named_by r1 to ≡ named_by r to
  named_other to other = ap (λ o. unwrap_or o []) (other_place r.named who.0 to.0 (both (named_by r who) named) (λ e. clash (eq-eqb to.0 who.0 (sym e)) other))

  named_own : (to : Pid) → nat_eq to.0 who.0 ≡ true → named_by r1 to ≡ both (named_by r to) named
  named_own to own =
      let same : to.0 ≡ who.0 = eqb-true to.0 who.0 own in
      ap (λ n. named_by r1 (record { 0 = n })) same ∙ trimmed_place r.named who.0 named ∙ ap (λ n. both (named_by r (record { 0 = n })) named) (sym same)

  module _ (p : Prefix) where
    trimmed_offers : (to chosen : Pid) → nat_eq to.0 who.0 ≡ true → filter (λ (o : Offer). counts named chosen o.exporter) (offers r p to chosen) ≡ offers r1 p to chosen
    trimmed_offers to chosen own =
        let cs : List Candidate = candidates r to p in
        let before : Candidate → Bool = λ c. counts (named_by r to) chosen c.from in
        let after : Candidate → Bool = λ c. counts named chosen c.from in
        filter-map (λ (o : Offer). counts named chosen o.exporter) (offer r) (filter before cs)
        ∙ ap (map (offer r)) (filter_twice after before cs)
        ∙ sym (λ i. map (offer r) (filter (λ (c : Candidate). counts_both (named_by r to) named chosen c.from i) cs))
        ∙ ap (λ names. map (offer r) (filter (λ (c : Candidate). counts names chosen c.from) cs)) (sym (named_own to own))

    trimmed_case : (to : Pid) (c : Candidate) (b : Bool) → nat_eq to.0 who.0 ≡ b
        → cond b (record (part_with r to p c) { offers = filter (λ (o : Offer). counts named c.from o.exporter) (offers r p to c.from) }) (part_with r to p c) ≡ part_with r1 to p c
    trimmed_case to c true own = λ i. record (part_with r to p c) { offers = trimmed_offers to c.from own i }
    trimmed_case to c false other = ap (λ names. record (part_with r to p c) { offers = map (offer r) (filter (λ (d : Candidate). counts names c.from d.from) (candidates r to p)) }) (sym (named_other to other))

    each_trimmed : (to : Pid) → option_map (trimmed_part who named) (part r p to) ≡ part r1 p to
    each_trimmed to = by (best r to p)
      where
        by : (o : Option Candidate) → option_map (trimmed_part who named) (option_map (λ (c : Candidate). part_with r to p c) o) ≡ option_map (λ (c : Candidate). part_with r1 to p c) o
        by None = refl
        by (Some c) = ap Some (trimmed_case to c (nat_eq to.0 who.0) refl)

    pub trimmed_signature : trimmed who named (signature r p) ≡ signature r1 p
    trimmed_signature = map_given (trimmed_part who named) (part r p) (part r1 p) each_trimmed (pids r)
