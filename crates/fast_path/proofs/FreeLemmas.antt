-- The free tags ascend.
use Rattle.std.proofs.Common.{◌≡◌, ℕ, zero, suc, ◌+◌, ◌<◌, List, [], ◌∷◌, ◌++◌, length, take, not, sym, ap, ◌∙◌, refl, arith}
use Rattle.std.specs.Prelude.{Some, None, find, slice_get, unwrap_or}
use Rattle.std.proofs.lemmas.List.{length-append}
use Rattle.net_types.proofs.RisingLemmas.{filter-IsRising}
use Rattle.net_types.specs.declared.address.Tag.{Tag}
use Rattle.exchange_laws.proofs.FreshTags.{below, next_greater, tags_rise}
use Rattle.fast_path.proofs.CommittedMaps.{take-IsRising}
use Rattle.fast_path.specs.Planned.{is_tag_below}
use Rattle.net_types.specs.Sets.{IsRising}
use Rattle.next_hop_pool.specs.Free.{Tags, free_tags, is_above, is_taken}

-- behind each comes the least greater one
pub next_above : (p : Tags) (k : ℕ) (t : Tag) → slice_get (free_tags p) k ≡ Some t → find (is_above (Some t)) (free_tags p) ≡ slice_get (free_tags p) (k + 1)
next_above p k t at = sym (next_greater (free_tags p) (filter-IsRising below (λ u. not (is_taken p u)) _ (tags_rise 1 (length p.taken))) k t at)

-- the first ones ascend
pub free_rise : (p : Tags) (n : ℕ) → IsRising is_tag_below (take n (free_tags p))
free_rise p n = take-IsRising is_tag_below n (free_tags p) (filter-IsRising below (λ u. not (is_taken p u)) _ (tags_rise 1 (length p.taken)))

-- the first is found where none comes before
pub first_above : (ts : List Tag) → find (is_above None) ts ≡ slice_get ts 0
first_above [] = refl
first_above (t ∷ ts) = refl

-- ---- the first ones, one after another

take_one_more : (xs : List Tag) (n : ℕ) (x : Tag) → slice_get xs n ≡ Some x → take n xs ++ x ∷ [] ≡ take (n + 1) xs
take_one_more [] zero x e = cc
take_one_more [] (suc n) x e = cc
take_one_more (y ∷ ys) zero x e = let same : y ≡ x = ap (λ o. unwrap_or o x) e in ap (λ z. z ∷ []) (sym same)
take_one_more (y ∷ ys) (suc n) x e = let next : suc n + 1 ≡ suc (n + 1) = omega arith in ap (λ zs. y ∷ zs) (take_one_more ys n x e) ∙ ap (λ k. take k (y ∷ ys)) (sym next)

-- with the element at its end a front is still a front
pub front_grows : (xs ts us : List Tag) (t : Tag) → ts ≡ take (length ts) xs → slice_get xs (length ts) ≡ Some t → us ≡ ts ++ t ∷ [] → us ≡ take (length us) xs
front_grows xs ts us t front at is =
    let longer : length us ≡ length ts + 1 = ap length is ∙ length-append ts (t ∷ []) in
    is ∙ ap (λ zs. zs ++ t ∷ []) front ∙ take_one_more xs (length ts) t at ∙ ap (λ k. take k xs) (sym longer)

-- within a list there is an element
pub there_is : (xs : List Tag) (n : ℕ) → n < length xs → slice_get xs n ≡ None → ⊥
there_is [] n below e = omega arith
there_is (x ∷ xs) zero below e = cc
there_is (x ∷ xs) (suc n) below e = there_is xs n (omega arith) e
