-- What the places of the best routes say of the best attributes.
use Rattle.std.proofs.Common.{◌≡◌, ℕ, ◌+◌, ◌-◌, ◌<◌, Bool, true, ◌&&◌, List, [], ◌∷◌, map, length, Option, Some, None, sym, ap, ◌∙◌, refl, true≢false}
use Rattle.std.specs.Prelude.{slice_get, nat_eq}
use Rattle.std.specs.List.{list_all}
use Rattle.std.specs.Option.{option_and_then, option_map}
use Rattle.std.proofs.lemmas.Bool.{and_parts, eqb-true}
use Rattle.net_types.specs.Attributes.{same_option, same_attrs, same_signature}
use Rattle.net_types.specs.Exports.{Routing}
use Rattle.net_types.specs.Routes.{Candidate, best_of, pids}
use Rattle.net_types.specs.declared.address.Pid.{Pid}
use Rattle.net_types.specs.declared.prefix.Prefix.{Prefix}
use Rattle.net_types.specs.declared.route.Part.{Part}
use Rattle.route_server.specs.Choices.{AreChosen}
use Rattle.route_server.specs.Effects.{place_attrs, best_by_row, same_by_rows}
use Rattle.route_server.specs.Rows.{held_at, offered, signature_of}
use Rattle.route_server.specs.declared.held.Held.{Held}
use Rattle.route_server.proofs.ChoiceSteps.{chosen_at}
use Rattle.route_server.proofs.EffectLaws.{pids_from, pids_step, place_best}

place_is : (a b : Option ℕ) → same_option nat_eq a b ≡ true → a ≡ b
place_is None None e = refl
place_is None (Some y) e = absurd (true≢false (sym e))
place_is (Some x) None e = absurd (true≢false (sym e))
place_is (Some x) (Some y) e = ap (λ n. Some n) (eqb-true x y e)

-- what is known of two places
pub known_stays : (old new : List Held) (a b c d : Option ℕ) → (same_option nat_eq a c && same_option nat_eq b d) ≡ true → same_option same_attrs (place_attrs old a) (place_attrs new b) ≡ true → true ≡ same_option same_attrs (place_attrs old c) (place_attrs new d)
known_stays old new a b c d e known =
    let parts = and_parts (same_option nat_eq a c) (same_option nat_eq b d) e in
    sym known ∙ (λ i. same_option same_attrs (place_attrs old (place_is a c parts.0 i)) (place_attrs new (place_is b d parts.1 i)))

-- the attributes at the places of all best routes
pub chosen_bests : (r : Routing) (p : Prefix) (row : List Held) (places : List (Option ℕ)) → AreChosen r p row places → map (place_attrs row) places ≡ map (best_by_row r p row) (pids r)
chosen_bests r p row places are = attrs_of places ∙ ap (map (option_map (λ (c : Candidate). c.attrs))) are ∙ merged (pids r)
  where
    attrs_of : (os : List (Option ℕ)) → map (place_attrs row) os ≡ map (option_map (λ (c : Candidate). c.attrs)) (map (option_and_then (held_at r row)) os)
    attrs_of [] = refl
    attrs_of (o ∷ os) = (λ i. place_best r row o (option_and_then (held_at r row) o) refl i ∷ attrs_of os i)

    merged : (tos : List Pid) → map (option_map (λ (c : Candidate). c.attrs)) (map (λ to. best_of (offered r to p row)) tos) ≡ map (best_by_row r p row) tos
    merged [] = refl
    merged (to ∷ tos) = ap (λ os. best_by_row r p row to ∷ os) (merged tos)

-- whether one participant's best attributes are the same
pub bests_at : (r s : Routing) (p : Prefix) (old new : List Held) (earlier places : List (Option ℕ)) (n : ℕ) (a b : Option ℕ) → AreChosen r p old earlier → AreChosen s p new places → n < length r.participants → n < length s.participants
    → a ≡ option_and_then (λ o. o) (slice_get earlier n) → b ≡ option_and_then (λ o. o) (slice_get places n)
    → same_option same_attrs (place_attrs old a) (place_attrs new b) ≡ same_option same_attrs (best_by_row r p old (record { 0 = n })) (best_by_row s p new (record { 0 = n }))
bests_at r s p old new earlier places n a b was are low below is now = λ i. same_option same_attrs
    (place_best r old a (best_of (offered r (record { 0 = n }) p old)) (ap (option_and_then (held_at r old)) is ∙ chosen_at r p old earlier n was low) i)
    (place_best s new b (best_of (offered s (record { 0 = n }) p new)) (ap (option_and_then (held_at s new)) now ∙ chosen_at s p new places n are below) i)

-- whether a prefix gives the same by two rows
pub rows_same : (r s : Routing) (p : Prefix) (old new : List Held) (both sigs bests : Bool) (sig : List Part) → both ≡ (sigs && bests) → sigs ≡ same_signature sig (signature_of r p old) → sig ≡ signature_of s p new
    → bests ≡ list_all (λ to. same_option same_attrs (best_by_row r p old to) (best_by_row s p new to)) (pids r) → both ≡ same_by_rows r s p old new
rows_same r s p old new both sigs bests sig is told made same = is ∙ (λ i. (told ∙ ap (λ x. same_signature x (signature_of r p old)) made) i && same i)

-- one participant more is asked
pub all_more : (f : Pid → Bool) (n count : ℕ) (b all : Bool) → n < count → f (record { 0 = n }) ≡ b → list_all f (pids_from n (count - n)) ≡ all → (b && list_all f (pids_from (n + 1) (count - (n + 1)))) ≡ all
all_more f n count b all lt e h = sym (ap (list_all f) (pids_step n count lt) ∙ ap (λ t. t && list_all f (pids_from (n + 1) (count - (n + 1)))) e) ∙ h
