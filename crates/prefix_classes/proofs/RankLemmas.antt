-- Where one of two lists ends first.
use Rattle.std.proofs.Common.{◌≡◌, ℕ, ◌<◌, List, [], ◌∷◌, length, drop, length-drop, refl, arith}
use Rattle.std.specs.Cmp.Lexicographic.{slice_cmp}
use Rattle.std.specs.declared.cmp.Ordering.{Ordering}
use Rattle.std.specs.declared.cmp.Ordering.TheVariants.{Less, Greater}

module _ {X : Type 0} (R : X → X → Ordering) where
  some_left : (xs ys : List X) → 0 < length xs → length ys ≡ 0 → slice_cmp R xs ys ≡ Greater
  some_left [] ys some none = absurd (omega arith)
  some_left (x ∷ xs) [] some none = refl
  some_left (x ∷ xs) (y ∷ ys) some none = absurd (omega arith)

  none_left : (xs ys : List X) → length xs ≡ 0 → 0 < length ys → slice_cmp R xs ys ≡ Less
  none_left [] [] none some = absurd (omega arith)
  none_left [] (y ∷ ys) none some = refl
  none_left (x ∷ xs) ys none some = absurd (omega arith)

  pub second_ends : (xs ys : List X) (i : ℕ) → i < length xs → i ≡ length ys → slice_cmp R (drop i xs) (drop i ys) ≡ Greater
  second_ends xs ys i more ends = let one = length-drop i xs in let other = length-drop i ys in some_left (drop i xs) (drop i ys) (omega (arith, one)) (omega (arith, other))

  pub first_ends : (xs ys : List X) (i : ℕ) → length xs < length ys → i ≡ length xs → slice_cmp R (drop i xs) (drop i ys) ≡ Less
  first_ends xs ys i more here = let one = length-drop i xs in let other = length-drop i ys in none_left (drop i xs) (drop i ys) (omega (arith, one)) (omega (arith, other))
