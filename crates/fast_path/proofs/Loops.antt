-- Steps of the loops over ports, parts, tags, classes and offers.
use Rattle.std.proofs.Common.{◌≡◌, ℕ, suc, ◌+◌, ◌<◌, ◌≤◌, false, cond, List, [], ◌∷◌, ◌++◌, length, map, drop, take, get_or, drop-cons, append_assoc, sym, ap, subst, ◌∙◌, refl, arith, inl, inr}
use Rattle.std.specs.Cmp.{ranked}
use Rattle.std.specs.FinMap.{empty}
use Rattle.std.specs.List.{list_any}
use Rattle.std.specs.Ordering.{is_lt, nat_cmp, ord_max}
use Rattle.std.specs.declared.cmp.Ordering.{Ordering}
use Rattle.std.specs.declared.cmp.Ordering.TheVariants.{Less, Equal, Greater}
use Rattle.std.proofs.lemmas.List.{take_all, take_more}
use Rattle.events.specs.Tags.{same_tag, tells}
use Rattle.events.specs.declared.Entry.{Entry}
use Rattle.net_types.proofs.SetLemmas.{Member-append_cases}
use Rattle.net_types.proofs.ValueLemmas.{no_entries}
use Rattle.net_types.specs.Keys.{prefix_cmp}
use Rattle.net_types.specs.Sets.{Member, union_over}
use Rattle.net_types.specs.declared.address.Tag.{Tag}
use Rattle.net_types.specs.declared.prefix.Prefix.{Prefix}

-- where nothing was told, no tag was
pub nothing_told : (t : Tag) → tells (empty {K = Prefix} {X = Entry} {R = prefix_cmp}) t ≡ false
nothing_told t = ap (λ es. list_any (λ (x : Entry). same_tag x.tag t) (map (λ (d : Prefix × Entry). d.1) es)) (no_entries Prefix Entry prefix_cmp)

-- what is left begins with the next one
pub rest_is : {X : Type 0} (xs : List X) (i : ℕ) (d : X) → i < length xs → drop i xs ≡ get_or xs i d ∷ drop (i + 1) xs
rest_is xs i d within = drop-cons xs i d within ∙ (let next : suc i ≡ i + 1 = omega arith in λ j. get_or xs i d ∷ drop (next j) xs)

-- one more of a union
pub union_step : {X Y : Type 0} (f : X → List Y) (xs : List X) (i : ℕ) (d : X) (ys zs all : List Y) → i < length xs → ys ++ union_over f (drop i xs) ≡ all → zs ≡ ys ++ f (get_or xs i d) → zs ++ union_over f (drop (i + 1) xs) ≡ all
union_step f xs i d ys zs all within before more =
    ap (λ vs. vs ++ union_over f (drop (i + 1) xs)) more
    ∙ append_assoc ys (f (get_or xs i d)) (union_over f (drop (i + 1) xs))
    ∙ ap (λ vs. ys ++ union_over f vs) (sym (rest_is xs i d within))
    ∙ before

-- what each so far has, and the next one, each has then
pub each_next : {X : Type 0} (P : X → Type 0) (xs : List X) (i : ℕ) (x : X) → i < length xs → x ≡ get_or xs i x → ((y : X) → Member y (take i xs) → P y) → P x → (y : X) → Member y (take (i + 1) xs) → P y
each_next P xs i x within is before here y m =
    elim (Member-append_cases (take i xs) (x ∷ []) y (subst (Member y) (take_more xs i x within ∙ ap (λ z. take i xs ++ z ∷ []) (sym is)) m)) [
      | inl old ↦ before y old
      | inr last ↦ elim last [ inl same ↦ subst P (sym same) here | inr none ↦ absurd none ]
    ]

-- at the end each has it
pub each_done : {X : Type 0} (P : X → Type 0) (xs : List X) (i : ℕ) → length xs ≤ i → ((y : X) → Member y (take i xs) → P y) → (y : X) → Member y xs → P y
each_done P xs i past each = subst (λ ys. (y : _) → Member y ys → P y) (take_all i xs past) each

-- the greater one of two numbers is less than neither
pub greater_one : (a b : ℕ) → (a ≤ ord_max nat_cmp a b) × (b ≤ ord_max nat_cmp a b)
greater_one a b = by (nat_cmp b a) refl
  where
    by : (r : Ordering) → r ≡ nat_cmp b a → (a ≤ cond (is_lt r) a b) × (b ≤ cond (is_lt r) a b)
    by Less is = let below = ranked b a Less is in (omega arith, omega (arith, below))
    by Equal is = let same = ranked b a Equal is in (omega (arith, same), omega arith)
    by Greater is = let above = ranked b a Greater is in (omega (arith, above), omega arith)
