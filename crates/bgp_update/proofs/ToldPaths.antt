-- What AS_PATH and AS4_PATH tell of a path, as they are written, is the path.
use Rattle.std.proofs.Common.{◌≡◌, ℕ, ◌-◌, ◌<◌, ◌≤◌, Bool, true, false, cond, List, [], ◌∷◌, length, map, leb, ltb, refl, ap, ◌∙◌, arith}
use Rattle.std.specs.Prelude.{Option, Some, None, nat_le}
use Rattle.std.specs.List.{list_any}
use Rattle.std.proofs.lemmas.Bool.{false_from_ne_true, leb-false, leb-true, ltb-true, or_parts}
use Rattle.std.proofs.lemmas.List.Sums.{sum_by-cons}
use Rattle.net_types.specs.Paths.{asns, has_wide, hops, hops_of, leading, whole_path}
use Rattle.net_types.specs.SoundUpdates.{IsSoundSegment}
use Rattle.net_types.specs.declared.route.Segment.{Segment}
use Rattle.net_types.specs.declared.route.Segment.TheVariants.{Set, Sequence}
use Rattle.bgp_update.proofs.SpelledAttributes.{length_told, told, told_same, told_segment}
use Rattle.net_types.specs.Sets.{Each}

-- AS4_PATH where it is written
abbrev pub wide_told : List Segment → Option (List Segment)
wide_told path = cond (has_wide path) (Some path) None

hops_told : (path : List Segment) → hops (map told_segment path) ≡ hops path
hops_told [] = refl
hops_told (Set ns ∷ path) = omega (arith, hops_told path, sum_by-cons hops_of (Set (map told ns)) (map told_segment path), sum_by-cons hops_of (Set ns) path)
hops_told (Sequence ns ∷ path) = omega (arith, hops_told path, length_told ns, sum_by-cons hops_of (Sequence (map told ns)) (map told_segment path), sum_by-cons hops_of (Sequence ns) path)

-- nothing is taken of a path without empty segments
none_leading : (path : List Segment) → Each IsSoundSegment path → leading 0 (map told_segment path) ≡ []
none_leading [] h = refl
none_leading (Set ns ∷ path) h = refl
none_leading (Sequence ns ∷ path) h =
    let some : 1 ≤ length ns = h.0.some in
    let high : leb (length (map told ns)) 0 ≡ false = false_from_ne_true (leb (length (map told ns)) 0) (λ t. let le : length (map told ns) ≤ 0 = leb-true (length (map told ns)) 0 t in omega (arith, le, some, length_told ns)) in
    rw high refl

narrow_numbers : (ns : List ℕ) → list_any (nat_le 65536) ns ≡ false → map told ns ≡ ns
narrow_numbers [] e = refl
narrow_numbers (n ∷ ns) e =
    let parts = or_parts (nat_le 65536 n) (list_any (nat_le 65536) ns) e in
    let less : n < 65536 = leb-false 65536 n parts.0 in
    ap (λ (m : ℕ). m ∷ map told ns) (told_same n less) ∙ ap (λ (ms : List ℕ). n ∷ ms) (narrow_numbers ns parts.1)

narrow_segment : (s : Segment) → list_any (nat_le 65536) (asns s) ≡ false → told_segment s ≡ s
narrow_segment (Set ns) e = ap (λ (ms : List ℕ). Set ms) (narrow_numbers ns e)
narrow_segment (Sequence ns) e = ap (λ (ms : List ℕ). Sequence ms) (narrow_numbers ns e)

narrow_path : (path : List Segment) → has_wide path ≡ false → map told_segment path ≡ path
narrow_path [] e = refl
narrow_path (s ∷ path) e =
    let parts = or_parts (list_any (nat_le 65536) (asns s)) (has_wide path) e in
    ap (λ (t : Segment). t ∷ map told_segment path) (narrow_segment s parts.0) ∙ ap (λ (ss : List Segment). s ∷ ss) (narrow_path path parts.1)

pub whole_back : (path : List Segment) → Each IsSoundSegment path → whole_path (map told_segment path) (wide_told path) ≡ path
whole_back path h = by (has_wide path) refl
  where
    even : (n : ℕ) → ltb n n ≡ false
    even n = false_from_ne_true (ltb n n) (λ t. let less : n < n = ltb-true n n t in omega (arith, less))

    none : (n : ℕ) → n - n ≡ 0
    none n = omega arith

    by : (b : Bool) → has_wide path ≡ b → whole_path (map told_segment path) (cond b (Some path) None) ≡ path
    by true e = rw (hops_told path, even (hops path), none (hops path), none_leading path h) refl
    by false e = narrow_path path e
