-- One sender more.
use Rattle.std.proofs.Common.{◌≡◌, ℕ, suc, ◌+◌, ◌-◌, ◌<◌, Bool, true, false, cond, ◌&&◌, length, get_or, take, List, [], ◌∷◌, ◌++◌, map, Some, None, refl, sym, ap, ◌∙◌, arith, append_assoc, append-nil}
use Rattle.std.specs.Prelude.{slice_get}
use Rattle.std.specs.List.{filter_map, cons_option}
use Rattle.std.specs.Option.{option_map}
use Rattle.net_types.specs.Exports.{Routing, is_given}
use Rattle.net_types.specs.Routes.{Candidate, numbers}
use Rattle.net_types.specs.Signatures.{counts, offer}
use Rattle.net_types.specs.declared.route.Offer.{Offer}
use Rattle.std.proofs.lemmas.List.Elements.{filter-append}
use Rattle.std.proofs.lemmas.Option.{slice_get-map, slice_get-get_or, get_or_from_slice_get}
use Rattle.net_types.proofs.SetLemmas.{map-append}
use Rattle.route_server.proofs.RowSteps.{offered_more}
use Rattle.net_types.specs.declared.prefix.Prefix.{Prefix}
use Rattle.net_types.specs.declared.route.Part.{Part}
use Rattle.net_types.specs.declared.address.Pid.{Pid}
use Rattle.route_server.specs.Choices.{offers_by_row}
use Rattle.route_server.specs.Rows.{counted, offered, names_at, part_of, held_by}
use Rattle.route_server.specs.declared.held.Held.{Held}

-- the parts of the senders from low on
abbrev pub parts_from : Routing → Prefix → List Held → ℕ → ℕ → List Part
parts_from r p row low count = filter_map (λ to. part_of r to (offered r to p row)) (map (λ n. record { 0 = n }) (numbers low count))

pub parts_step : (r : Routing) (p : Prefix) (row : List Held) (low count : ℕ) → low < count → parts_from r p row low (count - low) ≡ cons_option (part_of r (record { 0 = low }) (offered r (record { 0 = low }) p row)) (parts_from r p row (low + 1) (count - (low + 1)))
parts_step r p row low count lt =
    let e : count - low ≡ suc (count - (low + 1)) = omega (arith, lt) in
    ap (parts_from r p row low) e

pub part_more : (r : Routing) (p : Prefix) (row : List Held) (low count : ℕ) (sig : List Part) (x : Part) (all : List Part) → low < count → Some x ≡ part_of r (record { 0 = low }) (offered r (record { 0 = low }) p row) → sig ++ parts_from r p row low (count - low) ≡ all → (sig ++ x ∷ []) ++ parts_from r p row (low + 1) (count - (low + 1)) ≡ all
part_more r p row low count sig x all lt is h =
    append_assoc sig (x ∷ []) (parts_from r p row (low + 1) (count - (low + 1)))
    ∙ ap (λ o. sig ++ cons_option o (parts_from r p row (low + 1) (count - (low + 1)))) is
    ∙ ap (λ ys. sig ++ ys) (sym (parts_step r p row low count lt)) ∙ h

pub part_none : (r : Routing) (p : Prefix) (row : List Held) (low count : ℕ) (sig : List Part) (all : List Part) → low < count → None ≡ part_of r (record { 0 = low }) (offered r (record { 0 = low }) p row) → sig ++ parts_from r p row low (count - low) ≡ all → sig ++ parts_from r p row (low + 1) (count - (low + 1)) ≡ all
part_none r p row low count sig all lt is h =
    ap (λ o. sig ++ cons_option o (parts_from r p row (low + 1) (count - (low + 1)))) is
    ∙ ap (λ ys. sig ++ ys) (sym (parts_step r p row low count lt)) ∙ h

-- the offers of a row so far
abbrev pub offers_by : Routing → Pid → Pid → Prefix → List Held → List Offer
offers_by r to chosen p row = map (offer r) (counted r to chosen (offered r to p row))

module _ (r : Routing) (to chosen : Pid) (p : Prefix) (row : List Held) (i : ℕ) (h : Held) (within : i < length row) (is : h ≡ get_or row i h) where
  step : (b d : Bool) → b ≡ counts (names_at r.named to.0) chosen h.from → d ≡ is_given r h.from to p h.attrs
      → offers_by r to chosen p (take (i + 1) row) ≡ offers_by r to chosen p (take i row) ++ cond (b && d) (offer r (held_by r h) ∷ []) []
  step b d at given =
      ap (λ cs. map (offer r) (counted r to chosen cs)) (offered_more r to p row i h d within is given)
      ∙ ap (map (offer r)) (filter-append (λ (c : Candidate). counts (names_at r.named to.0) chosen c.from) (offered r to p (take i row)) (cons_option (cond d (Some (held_by r h)) None) []))
      ∙ map-append (offer r) (counted r to chosen (offered r to p (take i row))) (counted r to chosen (cons_option (cond d (Some (held_by r h)) None) []))
      ∙ ap (λ os. offers_by r to chosen p (take i row) ++ os) (last b d at)
    where
      last : (b d : Bool) → b ≡ counts (names_at r.named to.0) chosen h.from → map (offer r) (counted r to chosen (cons_option (cond d (Some (held_by r h)) None) [])) ≡ cond (b && d) (offer r (held_by r h) ∷ []) []
      last true true at = ap (λ t. map (offer r) (cond t (held_by r h ∷ []) [])) (sym at)
      last true false at = refl
      last false true at = ap (λ t. map (offer r) (cond t (held_by r h ∷ []) [])) (sym at)
      last false false at = refl

  step_as : (t : Bool) → t ≡ (counts (names_at r.named to.0) chosen h.from && is_given r h.from to p h.attrs) → offers_by r to chosen p (take (i + 1) row) ≡ offers_by r to chosen p (take i row) ++ cond t (offer r (held_by r h) ∷ []) []
  step_as t e = step (counts (names_at r.named to.0) chosen h.from) (is_given r h.from to p h.attrs) refl refl
      ∙ ap (λ u. offers_by r to chosen p (take i row) ++ cond u (offer r (held_by r h) ∷ []) []) (sym e)

  -- what the route offers
  pub offer_at : (all : List Offer) (d : Offer) → all ≡ offers_by_row r row → get_or all i d ≡ offer r (held_by r h)
  offer_at all d all_is = get_or_from_slice_get all i (offer r (held_by r h)) d
      (ap (λ xs. slice_get xs i) all_is ∙ slice_get-map (λ x. offer r (held_by r x)) row i
      ∙ ap (option_map (λ x. offer r (held_by r x))) (slice_get-get_or row i h within ∙ ap (λ x. Some x) (sym is)))

  -- one offer more
  pub offer_more : (xs ys : List Offer) (x : Offer) → true ≡ (counts (names_at r.named to.0) chosen h.from && is_given r h.from to p h.attrs) → x ≡ offer r (held_by r h)
      → xs ≡ offers_by r to chosen p (take i row) → ys ≡ xs ++ x ∷ [] → ys ≡ offers_by r to chosen p (take (i + 1) row)
  offer_more xs ys x e at old now =
      now ∙ (λ j. old j ++ at j ∷ []) ∙ sym (step_as true e)

  pub offer_same : (xs ys : List Offer) → false ≡ (counts (names_at r.named to.0) chosen h.from && is_given r h.from to p h.attrs)
      → xs ≡ offers_by r to chosen p (take i row) → ys ≡ xs → ys ≡ offers_by r to chosen p (take (i + 1) row)
  offer_same xs ys e old now = now ∙ old ∙ sym (step_as false e ∙ append-nil (offers_by r to chosen p (take i row)))
