-- Blocks of cells: which stay where cells lie within a cube.
use Rattle.std.proofs.Common.{arith, ◌≡◌, ℕ, zero, suc, ◌<◌, ◌+◌, ◌/◌, true, false, ◌&&◌, Some, List, [], ◌∷◌, ◌++◌, length, get_or, refl, inl, inr, sym, ap, ◌∙◌, subst}
use Rattle.std.specs.List.{slice_get}
use Rattle.std.specs.Option.{is_some}
use Rattle.std.proofs.lemmas.Bool.{and_from, cases_lt, false≢true}
use Rattle.std.proofs.lemmas.Option.{same_Some}
use Rattle.net_types.specs.declared.cube.Cube.{Cube}
use Rattle.net_types.specs.Cubes.{lies_within_cube}
use Rattle.net_types.specs.Sets.{Member}
use Rattle.net_types.proofs.SetLemmas
use Rattle.net_types.proofs.CubeLemmas.{any_prefix-covers, fields-from_has, has-from_fields, within-from_has, within_trans}
use Rattle.place_sets.specs.Places.{has_place}
use Rattle.cells.specs.declared.inside.Inner.{Inner}
use Rattle.cells.specs.Blocks.{HasInner, IsInner, KeepsInner, KnowInner, single_fields}

-- ---- the blocks of the cells so far

-- of the cells before a place
abbrev pub HasBefore : List Cube → Cube → List ℕ → ℕ → Type 0
HasBefore cells cube blocks n = (p : ℕ) (c : Cube) → slice_get cells p ≡ Some c → p < n → lies_within_cube c cube ≡ true → has_place blocks (p / 64) ≡ true

-- one cell more, that doesn't lie within the cube
pub before-left : (cells : List Cube) (cube : Cube) (old : List ℕ) (n : ℕ) (x : Cube) → slice_get cells n ≡ Some x → lies_within_cube x cube ≡ false
    → HasBefore cells cube old n → HasBefore cells cube old (n + 1)
before-left cells cube old n x at outside before p c there less inside = elim (cases_lt p n) [
  | inl earlier ↦ before p c there earlier inside
  | inr last ↦
      let here : p ≡ n = omega (arith, last, less) in
      let one : x ≡ c = same_Some x c (sym at ∙ ap (slice_get cells) (sym here) ∙ there) in
      absurd (false≢true (sym outside ∙ ap (λ y. lies_within_cube y cube) one ∙ inside))
]

-- ---- what is known

pub Member-slice_get : {A : Type 0} (xs : List A) (k : ℕ) (x : A) → slice_get xs k ≡ Some x → Member x xs
Member-slice_get [] k x e = absurd (false≢true (ap is_some e))
Member-slice_get (y ∷ xs) zero x e = inl (same_Some x y (sym e))
Member-slice_get (y ∷ xs) (suc k) x e = inr (Member-slice_get xs k x e)

pub Member-got : {A : Type 0} (xs : List A) (i : ℕ) (x : A) → i < length xs → x ≡ get_or xs i x → Member x xs
Member-got [] i x lt e = absurd (omega (arith, lt))
Member-got (y ∷ xs) zero x lt e = inl e
Member-got (y ∷ xs) (suc i) x lt e = inr (Member-got xs i x (omega (arith, lt)) e)

-- what is put last stands at the place that the length was
pub slice_get-last : {A : Type 0} (xs : List A) (x : A) → slice_get (xs ++ x ∷ []) (length xs) ≡ Some x
slice_get-last [] x = refl
slice_get-last (y ∷ xs) x = slice_get-last xs x

pub known-push : (cells : List Cube) (known more : List Inner) (i : Inner) → more ≡ known ++ i ∷ [] → HasInner cells i.cube i.blocks → KnowInner cells known → KnowInner cells more
known-push cells known more i e has_it know j k = elim (SetLemmas.Member-append_cases known (i ∷ []) j (subst (Member j) e k)) [
  | inl old ↦ know j old
  | inr new ↦ elim new [ inl same ↦ subst (λ (x : Inner). HasInner cells x.cube x.blocks) (sym same) has_it | inr none ↦ elim none [ ] ]
]

-- what is found at a number is of the cube
pub inner-found : (cells : List Cube) (known : List Inner) (cube : Cube) (n : ℕ) (i : Inner) → slice_get known n ≡ Some i → i.cube ≡ cube → KnowInner cells known → IsInner cells known cube n
inner-found cells known cube n i at same know = (i, at, subst (λ c. HasInner cells c i.blocks) same (know i (Member-slice_get known n i at)))

-- and what was put last too
pub inner-last : (cells : List Cube) (known more : List Inner) (i : Inner) (n : ℕ) → more ≡ known ++ i ∷ [] → n ≡ length known → HasInner cells i.cube i.blocks → IsInner cells more i.cube n
inner-last cells known more i n e last has_it = (i, ap (λ xs. slice_get xs n) e ∙ ap (slice_get (known ++ i ∷ [])) last ∙ slice_get-last known i, has_it)

-- ---- which blocks stay

pub keeps-both : (cells : List Cube) (cube : Cube) (old inner new : List ℕ) → ((k : ℕ) → has_place new k ≡ (has_place old k && has_place inner k)) → HasInner cells cube inner → KeepsInner cells cube old new
keeps-both cells cube old inner new both has_it p c at inside there = both (p / 64) ∙ and_from _ _ there (has_it p c at inside)

-- what lies within a cube has each of its fields
pub within-single : (c s : Cube) → Member s (single_fields c) → lies_within_cube c s ≡ true
within-single c s m = elim m [
  | inl e ↦ ap (lies_within_cube c) e ∙ within-from_has c _ (λ h t. has-from_fields _ h (record { inport = (fields-from_has c h t).inport; src = any_prefix-covers h.src; dst = any_prefix-covers h.dst; proto = refl; sport = refl; dport = refl }))
  | inr m ↦ elim m [
    | inl e ↦ ap (lies_within_cube c) e ∙ within-from_has c _ (λ h t. has-from_fields _ h (record { inport = refl; src = (fields-from_has c h t).src; dst = any_prefix-covers h.dst; proto = refl; sport = refl; dport = refl }))
    | inr m ↦ elim m [
      | inl e ↦ ap (lies_within_cube c) e ∙ within-from_has c _ (λ h t. has-from_fields _ h (record { inport = refl; src = any_prefix-covers h.src; dst = (fields-from_has c h t).dst; proto = refl; sport = refl; dport = refl }))
      | inr m ↦ elim m [
        | inl e ↦ ap (lies_within_cube c) e ∙ within-from_has c _ (λ h t. has-from_fields _ h (record { inport = refl; src = any_prefix-covers h.src; dst = any_prefix-covers h.dst; proto = (fields-from_has c h t).proto; sport = refl; dport = refl }))
        | inr m ↦ elim m [
          | inl e ↦ ap (lies_within_cube c) e ∙ within-from_has c _ (λ h t. has-from_fields _ h (record { inport = refl; src = any_prefix-covers h.src; dst = any_prefix-covers h.dst; proto = refl; sport = (fields-from_has c h t).sport; dport = refl }))
          | inr m ↦ elim m [
            | inl e ↦ ap (lies_within_cube c) e ∙ within-from_has c _ (λ h t. has-from_fields _ h (record { inport = refl; src = any_prefix-covers h.src; dst = any_prefix-covers h.dst; proto = refl; sport = refl; dport = (fields-from_has c h t).dport }))
            | inr none ↦ elim none [ ]
          ]
        ]
      ]
    ]
  ]
]

-- one field more was looked at
pub keeps-field : (cells : List Cube) (c s : Cube) (old left new : List ℕ) → Member s (single_fields c) → KeepsInner cells s left new → KeepsInner cells c old left → KeepsInner cells c old new
keeps-field cells c s old left new m step before p x at inside there = step p x at (within_trans x c s inside (within-single c s m)) (before p x at inside there)
