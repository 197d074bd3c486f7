-- The pairs of a tag that nobody was told, and those of some tags that nobody was told, as they come.
use Rattle.std.proofs.Common.{◌≡◌, ℕ, zero, suc, Bool, true, false, cond, not, List, [], ◌∷◌, ◌++◌, length, drop, get_or, ◌+◌, ◌<◌, eq-eqb, sym, ap, subst, ◌∙◌, refl, inl, inr}
use Rattle.std.specs.Prelude.{Some, slice_get, unwrap_or}
use Rattle.std.specs.FinMap.{FinMap, empty, get}
use Rattle.std.specs.Option.{option_map_or}
use Rattle.std.proofs.lemmas.Option.{slice_get_cases}
use Rattle.std.proofs.lemmas.Bool.{eqb-true, not-true, or_parts}
use Rattle.events.specs.Tags.{same_tag, tells}
use Rattle.exchange_laws.proofs.Lists.{clash}
use Rattle.fast_path.proofs.Loops.{nothing_told, rest_is}
use Rattle.fast_path.specs.Pairs.{Told, is_told, part_pairs, sender_pairs, tag_pairs, untold}
use Rattle.net_types.proofs.RisingLemmas.{filter-Member}
use Rattle.net_types.specs.Keys.{tag_cmp}
use Rattle.net_types.specs.Sets.{Member, union_over}
use Rattle.net_types.specs.declared.address.Tag.{Tag}
use Rattle.net_types.specs.declared.route.Part.{Part}
use Rattle.net_types.specs.declared.rule.Pair.{Pair}
use Rattle.registry.specs.Registered.{Registered}

-- ---- no sender was told it

told_to_none : (told : Told) (t : Tag) (n : ℕ) → is_told told t ≡ false → tells (unwrap_or (slice_get told n) empty) t ≡ false
told_to_none [] t n none = nothing_told t
told_to_none (m ∷ ms) t zero none = (or_parts (tells m t) (is_told ms t) none).0
told_to_none (m ∷ ms) t (suc n) none = told_to_none ms t n (or_parts (tells m t) (is_told ms t) none).1

-- the pairs of all senders go
pub dead_pairs : (names : Registered) (told : Told) (t : Tag) (parts : List Part) → is_told told t ≡ false → union_over (part_pairs names told t) parts ≡ union_over (sender_pairs names t) parts
dead_pairs names told t [] none = refl
dead_pairs names told t (x ∷ xs) none = λ i. one i ++ dead_pairs names told t xs none i
  where
    one : part_pairs names told t x ≡ sender_pairs names t x
    one = ap (λ b. cond b [] (sender_pairs names t x)) (told_to_none told t x.sender.0 none)

-- so they are those that go with it
pub dead_more : (names : Registered) (kept : FinMap tag_cmp (List Part)) (told : Told) (t : Tag) (parts : List Part) (ys zs : List Pair) → is_told told t ≡ false → parts ≡ unwrap_or (get kept t) []
    → zs ≡ ys ++ union_over (sender_pairs names t) parts → zs ≡ ys ++ tag_pairs names kept told t
dead_more names kept told t parts ys zs none is more = more ∙ ap (λ vs. ys ++ vs) (sym (dead_pairs names told t parts none) ∙ ap (union_over (part_pairs names told t)) is)

-- ---- those of a list that nobody was told, as its tags come

first_step : (told : Told) (t u : Tag) (ts us : List Tag) → u ∷ us ≡ untold told (t ∷ ts) → u.0 ≡ t.0 → (is_told told t ≡ false) × (us ≡ untold told ts)
first_step told t u ts us dead same = by (is_told told t) refl
  where
    by : (b : Bool) → is_told told t ≡ b → (is_told told t ≡ false) × (us ≡ untold told ts)
    by false none = (none, let all : u ∷ us ≡ t ∷ untold told ts = dead ∙ ap (λ b. cond (not b) (t ∷ untold told ts) (untold told ts)) none in cc)
    by true is =
        let all : u ∷ us ≡ untold told ts = dead ∙ ap (λ b. cond (not b) (t ∷ untold told ts) (untold told ts)) is in
        let stands = filter-Member (λ v. not (is_told told v)) ts u (subst (Member u) all (inl refl)) in
        let to : u ≡ t = ap (λ n. let v : Tag = record { 0 = n } in v) same in
        absurd (clash is (ap (is_told told) (sym to) ∙ not-true (is_told told u) stands.passes))

slice_get-drop : (ds : List Tag) (at : ℕ) (x : Tag) (xs : List Tag) → drop at ds ≡ x ∷ xs → slice_get ds at ≡ Some x
slice_get-drop [] zero x xs is = absurd (let none : [] ≡ x ∷ xs = is in cc)
slice_get-drop [] (suc n) x xs is = absurd (let none : [] ≡ x ∷ xs = is in cc)
slice_get-drop (d ∷ ds) zero x xs is = let all : d ∷ ds ≡ x ∷ xs = is in cc
slice_get-drop (d ∷ ds) (suc n) x xs is = slice_get-drop ds n x xs is

-- where the next tag comes first of those that are left, nobody was told it
pub dead_next : (told : Told) (ts ds : List Tag) (i at : ℕ) (d : Tag) → i < length ts → drop at ds ≡ untold told (drop i ts) → option_map_or (same_tag (get_or ts i d)) (slice_get ds at) false ≡ true
    → (at < length ds) × (is_told told (get_or ts i d) ≡ false) × (drop (at + 1) ds ≡ untold told (drop (i + 1) ts))
dead_next told ts ds i at d within left here = elim (slice_get_cases ds at).1 [
  | inl (u, below, is, value) ↦
      let same = sym (ap (λ o. option_map_or (same_tag (get_or ts i d)) o false) is) ∙ here in
      let first : u ∷ drop (at + 1) ds ≡ untold told (get_or ts i d ∷ drop (i + 1) ts) = ap (λ x. x ∷ drop (at + 1) ds) (sym value) ∙ sym (rest_is ds at u below) ∙ left ∙ ap (untold told) (rest_is ts i d within) in
      let both = first_step told (get_or ts i d) u (drop (i + 1) ts) (drop (at + 1) ds) first (sym (eqb-true (get_or ts i d).0 u.0 same)) in
      (below, both.0, both.1)
  | inr (past, none) ↦ absurd (clash here (ap (λ o. option_map_or (same_tag (get_or ts i d)) o false) none))
]

-- where it doesn't, they are left of the rest
pub told_next : (told : Told) (ts ds : List Tag) (i at : ℕ) (d : Tag) → i < length ts → drop at ds ≡ untold told (drop i ts) → option_map_or (same_tag (get_or ts i d)) (slice_get ds at) false ≡ false
    → drop at ds ≡ untold told (drop (i + 1) ts)
told_next told ts ds i at d within left other = by (is_told told (get_or ts i d)) refl
  where
    all : drop at ds ≡ untold told (get_or ts i d ∷ drop (i + 1) ts)
    all = left ∙ ap (untold told) (rest_is ts i d within)

    by : (b : Bool) → is_told told (get_or ts i d) ≡ b → drop at ds ≡ untold told (drop (i + 1) ts)
    by true is = all ∙ ap (λ b. cond (not b) (get_or ts i d ∷ untold told (drop (i + 1) ts)) (untold told (drop (i + 1) ts))) is
    by false none =
        let first : drop at ds ≡ get_or ts i d ∷ untold told (drop (i + 1) ts) = all ∙ ap (λ b. cond (not b) (get_or ts i d ∷ untold told (drop (i + 1) ts)) (untold told (drop (i + 1) ts))) none in
        let stands : slice_get ds at ≡ Some (get_or ts i d) = slice_get-drop ds at (get_or ts i d) (untold told (drop (i + 1) ts)) first in
        absurd (clash (ap (λ o. option_map_or (same_tag (get_or ts i d)) o false) stands ∙ eq-eqb (get_or ts i d).0 (get_or ts i d).0 refl) other)
