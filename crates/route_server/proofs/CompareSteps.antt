-- One item more of a list is compared with what another list makes.
use Rattle.std.proofs.Common.{◌≡◌, ℕ, ◌+◌, ◌-◌, ◌<◌, Bool, true, false, cond, ◌&&◌, List, [], ◌∷◌, map, drop, length, get_or, Option, Some, None, sym, ap, ◌∙◌, refl, suc, zero}
use Rattle.std.specs.Prelude.{slice_get, nat_le}
use Rattle.std.specs.Cmp.Lexicographic.{pointwise}
use Rattle.std.specs.List.{cons_option}
use Rattle.std.specs.Option.{option_map, option_map_or}
use Rattle.std.proofs.Math.Dec.{leb-zero, leb-suc-zero, leb-suc-suc}
use Rattle.std.proofs.Math.Numerals.{add-one}
use Rattle.std.proofs.Math.Seq.{drop-cons}
use Rattle.net_types.specs.Exports.{Routing, is_given}
use Rattle.net_types.specs.Routes.{Candidate, best_of}
use Rattle.net_types.specs.Signatures.{counts, offer}
use Rattle.net_types.specs.declared.address.Pid.{Pid}
use Rattle.net_types.specs.declared.prefix.Prefix.{Prefix}
use Rattle.net_types.specs.declared.route.Offer.{Offer}
use Rattle.net_types.specs.declared.route.Part.{Part}
use Rattle.route_server.specs.Rows.{names_at, held_by, counted, offered, part_of}
use Rattle.route_server.specs.declared.held.Held.{Held}
use Rattle.route_server.proofs.Parts.{offers_by, parts_from, parts_step}

-- the item at a place is compared with the next one
at_place : {A B : Type 0} (E : A → B → Bool) (xs : List A) (k : ℕ) (y : B) (ys : List B) → pointwise E (drop k xs) (y ∷ ys) ≡ (option_map_or (λ x. E x y) (slice_get xs k) false && pointwise E (drop (suc k) xs) ys)
at_place E [] zero y ys = refl
at_place E [] (suc k) y ys = refl
at_place E (x ∷ xs) zero y ys = refl
at_place E (x ∷ xs) (suc k) y ys = at_place E xs k y ys

pub compare_more : {A B : Type 0} (E : A → B → Bool) (xs : List A) (k : ℕ) (y : B) (rest ys : List B) (b all : Bool) → rest ≡ y ∷ ys → b ≡ option_map_or (λ x. E x y) (slice_get xs k) false → pointwise E (drop k xs) rest ≡ all → (b && pointwise E (drop (k + 1) xs) ys) ≡ all
compare_more E xs k y rest ys b all is at h =
    (λ i. at i && pointwise E (drop (add-one k i) xs) ys) ∙ sym (at_place E xs k y ys) ∙ ap (pointwise E (drop k xs)) (sym is) ∙ h

-- nothing more is to be compared
pub compare_end : {A B : Type 0} (E : A → B → Bool) (xs : List A) (k : ℕ) → pointwise E (drop k xs) [] ≡ nat_le (length xs) k
compare_end E [] zero = sym (leb-zero 0)
compare_end E [] (suc k) = sym (leb-zero (suc k))
compare_end E (x ∷ xs) zero = sym (leb-suc-zero (length xs))
compare_end E (x ∷ xs) (suc k) = compare_end E xs k ∙ sym (leb-suc-suc (length xs) k)

-- the offers of a row from one of its routes on
pub offers_step : (r : Routing) (to chosen : Pid) (p : Prefix) (row : List Held) (i : ℕ) (h : Held) (t : Bool) → i < length row → h ≡ get_or row i h → t ≡ (counts (names_at r.named to.0) chosen h.from && is_given r h.from to p h.attrs)
    → offers_by r to chosen p (drop i row) ≡ cond t (offer r (held_by r h) ∷ offers_by r to chosen p (drop (i + 1) row)) (offers_by r to chosen p (drop (i + 1) row))
offers_step r to chosen p row i h t within is e =
    ap (offers_by r to chosen p) (drop-cons row i h within ∙ (λ j. sym is j ∷ drop (sym (add-one i) j) row))
    ∙ step (counts (names_at r.named to.0) chosen h.from) (is_given r h.from to p h.attrs) refl refl
    ∙ ap (λ u. cond u (offer r (held_by r h) ∷ rest) rest) (sym e)
  where
    rest : List Offer
    rest = offers_by r to chosen p (drop (i + 1) row)

    step : (b d : Bool) → counts (names_at r.named to.0) chosen h.from ≡ b → is_given r h.from to p h.attrs ≡ d → offers_by r to chosen p (h ∷ drop (i + 1) row) ≡ cond (b && d) (offer r (held_by r h) ∷ rest) rest
    step b d at given = ap (λ u. map (offer r) (counted r to chosen (cons_option (cond u (Some (held_by r h)) None) (offered r to p (drop (i + 1) row))))) given ∙ last b d at
      where
        last : (b d : Bool) → counts (names_at r.named to.0) chosen h.from ≡ b → map (offer r) (counted r to chosen (cons_option (cond d (Some (held_by r h)) None) (offered r to p (drop (i + 1) row)))) ≡ cond (b && d) (offer r (held_by r h) ∷ rest) rest
        last true true at = ap (λ u. map (offer r) (cond u (held_by r h ∷ counted r to chosen (offered r to p (drop (i + 1) row))) (counted r to chosen (offered r to p (drop (i + 1) row))))) at
        last true false at = refl
        last false true at = ap (λ u. map (offer r) (cond u (held_by r h ∷ counted r to chosen (offered r to p (drop (i + 1) row))) (counted r to chosen (offered r to p (drop (i + 1) row))))) at
        last false false at = refl

-- a sender's part, by its best route
part_by : (r : Routing) (to : Pid) (gs : List Candidate) (o : Option Held) → option_map (held_by r) o ≡ best_of gs → part_of r to gs ≡ option_map {U = Part} (λ (h : Held). record { sender = to; best = h.from; offers = map (offer r) (counted r to h.from gs) }) o
part_by r to gs o is = ap (option_map {U = Part} (λ (c : Candidate). record { sender = to; best = c.from; offers = map (offer r) (counted r to c.from gs) })) (sym is) ∙ either o
  where
    either : (o : Option Held) → option_map {U = Part} (λ (c : Candidate). record { sender = to; best = c.from; offers = map (offer r) (counted r to c.from gs) }) (option_map (held_by r) o) ≡ option_map {U = Part} (λ (h : Held). record { sender = to; best = h.from; offers = map (offer r) (counted r to h.from gs) }) o
    either None = refl
    either (Some h) = refl

-- the parts of the senders from one on
pub parts_some : (r : Routing) (p : Prefix) (row : List Held) (n count : ℕ) (h : Held) → n < count → Some (held_by r h) ≡ best_of (offered r (record { 0 = n }) p row)
    → parts_from r p row n (count - n) ≡ record { sender = record { 0 = n }; best = h.from; offers = offers_by r (record { 0 = n }) h.from p row } ∷ parts_from r p row (n + 1) (count - (n + 1))
parts_some r p row n count h lt is = parts_step r p row n count lt ∙ ap (λ o. cons_option o (parts_from r p row (n + 1) (count - (n + 1)))) (part_by r (record { 0 = n }) (offered r (record { 0 = n }) p row) (Some h) is)

pub parts_none : (r : Routing) (p : Prefix) (row : List Held) (n count : ℕ) → n < count → None ≡ best_of (offered r (record { 0 = n }) p row)
    → parts_from r p row n (count - n) ≡ parts_from r p row (n + 1) (count - (n + 1))
parts_none r p row n count lt is = parts_step r p row n count lt ∙ ap (λ o. cons_option o (parts_from r p row (n + 1) (count - (n + 1)))) (part_by r (record { 0 = n }) (offered r (record { 0 = n }) p row) None is)

pub parts_end : (r : Routing) (p : Prefix) (row : List Held) (n count : ℕ) → count - n ≡ 0 → parts_from r p row n (count - n) ≡ []
parts_end r p row n count none = ap (parts_from r p row n) none
