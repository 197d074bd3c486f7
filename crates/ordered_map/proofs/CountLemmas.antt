-- What holds of a map's parts after a key was put in or taken out.
use Rattle.std.proofs.Common.{◌≡◌, ℕ, ◌+◌, ◌-◌, ◌≤◌, ◌<◌, drop, Bool, true, false, cond, not, List, [], ◌∷◌, length, sym, ap, ◌∙◌, refl, arith}
use Rattle.std.specs.Prelude.{T, Option, None, Some, is_some}
use Rattle.std.specs.Cmp.{IsTotalOrder}
use Rattle.std.specs.Ordering.{eq_by_cmp}
use Rattle.std.specs.declared.cmp.Ordering.{Ordering}
use Rattle.std.specs.FinMap.Entries.{find, put, is_sorted, below_all, is_sorted-put, is_sorted-where_key, length-put, length_without}
use Rattle.std.proofs.lemmas.Bool.{and_parts}
use Rattle.ordered_map.specs.Entries.{head_of, without}
use Rattle.ordered_map.specs.Kept.{IsKept}

holds : (b : Bool) → b ≡ true → T b
holds true e = tt
holds false e = cc

shown : (b : Bool) → T b → b ≡ true
shown true h = refl
shown false h = absurd h

pub none_there : {A : Type 0} (o : Option A) → is_some o ≡ false → o ≡ None
none_there None none = refl
none_there (Some x) none = cc

module _ {K V : Type 0} (R : K → K → Ordering) (o : IsTotalOrder R) where
  pub put_rises : (es fs : List (K × V)) (k : K) (v : V) → is_sorted R es ≡ true → fs ≡ put R k v es → is_sorted R fs ≡ true
  put_rises es fs k v rising is = ap (is_sorted R) is ∙ shown _ (is_sorted-put R o k v es (holds _ rising))

  pub put_new : (es fs : List (K × V)) (k : K) (v : V) (spare left room count : ℕ) → IsKept R es spare room count → fs ≡ put R k v es → is_some (find R k es) ≡ false → spare ≤ left + 1 → 0 < room → IsKept R fs left (room - 1) (count + 1)
  put_new es fs k v spare left room count kept is none less some =
      let size : length fs ≡ length es + 1 = ap length is ∙ length-put R o k v es (holds _ kept.rising) ∙ ap (λ b. cond b (length es) (length es + 1)) none in
      record { rising = put_rises es fs k v kept.rising is; boxes = omega (arith, less, kept.boxes); counted = omega (arith, size, kept.counted); fits = omega (arith, some, kept.fits) }

  pub put_known : (es fs : List (K × V)) (k : K) (v : V) (spare left room count : ℕ) → IsKept R es spare room count → fs ≡ put R k v es → is_some (find R k es) ≡ true → spare ≤ left + 0 → IsKept R fs left room count
  put_known es fs k v spare left room count kept is some less =
      let size : length fs ≡ length es = ap length is ∙ length-put R o k v es (holds _ kept.rising) ∙ ap (λ b. cond b (length es) (length es + 1)) some in
      record { rising = put_rises es fs k v kept.rising is; boxes = omega (arith, less, kept.boxes); counted = omega (arith, size, kept.counted); fits = kept.fits }

  pub without_rises : (es fs : List (K × V)) (k : K) → is_sorted R es ≡ true → fs ≡ without R k es → is_sorted R fs ≡ true
  without_rises es fs k rising is = ap (is_sorted R) is ∙ shown _ (is_sorted-where_key R (λ x. not (eq_by_cmp R k x)) es (holds _ rising))

  pub took_known : (es fs : List (K × V)) (k : K) (spare left room count : ℕ) → IsKept R es spare room count → fs ≡ without R k es → is_some (find R k es) ≡ true → spare ≤ left → IsKept R fs left room (count - 1)
  took_known es fs k spare left room count kept is some more =
      let size : 1 + length fs ≡ length es = ap (λ ds. 1 + length ds) is ∙ ap (λ b. cond b 1 0 + length (without R k es)) (sym some) ∙ length_without R o k es (holds _ kept.rising) in
      record { rising = without_rises es fs k kept.rising is; boxes = omega (arith, more, kept.boxes); counted = omega (arith, size, kept.counted); fits = omega (arith, kept.fits) }

  pub took_none : (es fs : List (K × V)) (k : K) (spare left room count : ℕ) → IsKept R es spare room count → fs ≡ without R k es → is_some (find R k es) ≡ false → spare ≤ left → IsKept R fs left room count
  took_none es fs k spare left room count kept is none more =
      let size : 0 + length fs ≡ length es = ap (λ ds. 0 + length ds) is ∙ ap (λ b. cond b 1 0 + length (without R k es)) (sym none) ∙ length_without R o k es (holds _ kept.rising) in
      record { rising = without_rises es fs k kept.rising is; boxes = omega (arith, more, kept.boxes); counted = omega (arith, size, kept.counted); fits = kept.fits }

-- ---- the first one taken out

module _ {K V : Type 0} (R : K → K → Ordering) where
  rest_rises : (es : List (K × V)) → is_sorted R es ≡ true → is_sorted R (drop 1 es) ≡ true
  rest_rises [] rising = refl
  rest_rises (e ∷ es) rising = (and_parts (below_all R e.0 es) (is_sorted R es) rising).1

  pub first_rises : (es fs : List (K × V)) → is_sorted R es ≡ true → fs ≡ drop 1 es → is_sorted R fs ≡ true
  first_rises es fs rising is = ap (is_sorted R) is ∙ rest_rises es rising

  one_less : (es : List (K × V)) → is_some (head_of es) ≡ true → length es ≡ length (drop 1 es) + 1
  one_less [] some = cc
  one_less (e ∷ es) some = omega arith

  none_less : (es : List (K × V)) → is_some (head_of es) ≡ false → length (drop 1 es) ≡ length es
  none_less [] none = refl
  none_less (e ∷ es) none = cc

  pub some_first : (es : List (K × V)) → is_some (head_of es) ≡ true → 0 < length es
  some_first es some = let size = one_less es some in omega (arith, size)

  pub first_took : (es fs : List (K × V)) (spare left room count : ℕ) → IsKept R es spare room count → fs ≡ drop 1 es → is_some (head_of es) ≡ true → spare ≤ left → IsKept R fs left room (count - 1)
  first_took es fs spare left room count kept is some more =
      let size = one_less es some in
      let same = ap length is in
      record { rising = first_rises es fs kept.rising is; boxes = omega (arith, more, kept.boxes); counted = omega (arith, size, same, kept.counted); fits = omega (arith, kept.fits) }

  pub first_none : (es fs : List (K × V)) (spare left room count : ℕ) → IsKept R es spare room count → fs ≡ drop 1 es → is_some (head_of es) ≡ false → spare ≤ left → IsKept R fs left room count
  first_none es fs spare left room count kept is none more =
      let size = none_less es none in
      let same = ap length is in
      record { rising = first_rises es fs kept.rising is; boxes = omega (arith, more, kept.boxes); counted = omega (arith, size, same, kept.counted); fits = kept.fits }
