-- The marks of the types that have come.
use Rattle.std.proofs.Common.{◌≡◌, ℕ, ◌<◌, ◌||◌, Bool, true, false, List, length, sym, ap, ◌∙◌, inl, inr, replicate}
use Rattle.std.specs.Prelude.{slice_index_or, slice_set, ◌==◌}
use Rattle.std.proofs.lemmas.List.{get_or-set_same, get_or-set_other, get_or_past, get_or-replicate, length-replicate}
use Rattle.std.proofs.lemmas.Bool.{cases_eq, cases_lt, eq-eqb, ne_eqb}
use Rattle.net_types.specs.UpdateFormat.{no_types, number_of, with_type}
use Rattle.net_types.specs.declared.attribute.Attribute.{Attribute}
use Rattle.bgp_update.specs.Answers.{marked}

one_more : (seen : List Bool) (n : ℕ) → n < length seen → (k : ℕ) → slice_index_or (slice_set seen n true) k false ≡ ((k == n) || slice_index_or seen k false)
one_more seen n less k = elim (cases_eq k n) [
  | inl same ↦ ap (λ (j : ℕ). slice_index_or (slice_set seen n true) j false) same ∙ get_or-set_same seen n true false less ∙ sym (ap (λ (b : Bool). b || slice_index_or seen k false) (eq-eqb k n same))
  | inr other ↦ get_or-set_other seen n k true false other ∙ sym (ap (λ (b : Bool). b || slice_index_or seen k false) (ne_eqb k n other))
]

-- a type more is marked
pub marked-set : (seen : List Bool) (a : Attribute) → number_of a < length seen → marked (slice_set seen (number_of a) true) ≡ with_type (marked seen) a
marked-set seen a less = λ i k. one_more seen (number_of a) less k i

-- nothing is marked at the start
pub marked-none : (n : ℕ) → marked (replicate n false) ≡ no_types
marked-none n = λ i k. none k i
  where
    none : (k : ℕ) → slice_index_or (replicate n false) k false ≡ false
    none k = elim (cases_lt k n) [
      | inl less ↦ get_or-replicate n k false false less
      | inr more ↦ get_or_past (replicate n false) k false (rw (length-replicate n false) more)
    ]
