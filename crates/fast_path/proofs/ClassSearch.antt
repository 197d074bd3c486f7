-- What a search finds among classes whose tags rise.
use Rattle.std.proofs.Common.{◌≡◌, ℕ, zero, suc, ◌+◌, ◌<◌, false, List, [], ◌∷◌, length, cond, sym, ap, subst, ◌∙◌, refl, arith, inl, inr}
use Rattle.std.specs.Prelude.{Some, None, find, slice_index_or}
use Rattle.std.specs.List.{HoldsAt}
use Rattle.std.specs.List.Sorted.{IsNonDecreasingBy, IsPartitionPoint, IsSortedBy}
use Rattle.std.specs.Ordering.{is_eq, is_lt, ordering_index}
use Rattle.std.specs.declared.cmp.Ordering.TheVariants.{Less, Equal, Greater}
use Rattle.std.proofs.lemmas.Bool.{cases_lt, false_from_ne_true, false≢true}
use Rattle.std.proofs.lemmas.Cmp.{tied_itself}
use Rattle.std.proofs.lemmas.List.Sorted.{searchable_from_sorted}
use Rattle.events.specs.Tags.{same_tag}
use Rattle.exchange_laws.proofs.Sames.{tag_itself, tag_same}
use Rattle.fast_path.specs.Building.{AreInOrder, is_class_of}
use Rattle.fast_path.specs.declared.planned.Class.{Class}
use Rattle.net_types.proofs.FindLemmas.{find_none}
use Rattle.net_types.proofs.MemberLemmas.{Member-at}
use Rattle.net_types.proofs.OrderLemmas.{tags_total}
use Rattle.net_types.specs.Keys.{tag_cmp}
use Rattle.net_types.specs.Sets.{Member}
use Rattle.net_types.specs.declared.address.Tag.{Tag}
use Rattle.net_types.proofs.TieLemmas.{backward, not_tied, tag_tie}

in_order : (xs : List Class) → AreInOrder xs → IsSortedBy (λ (x y : Class). is_lt (tag_cmp x.tag y.tag)) xs
in_order xs r k d low within = go xs r k within
  where
    go : (xs : List Class) → AreInOrder xs → (k : ℕ) → k + 1 < length xs → is_lt (tag_cmp (slice_index_or xs (k + 1) d).tag (slice_index_or xs k d).tag) ≡ false
    go [] r k within = absurd (omega arith)
    go (x ∷ []) r k within = absurd (omega arith)
    go (x ∷ y ∷ ys) r zero within = backward (tag_cmp x.tag y.tag) (tag_cmp y.tag x.tag) (tags_total.antisymm x.tag y.tag) (r.0 y (inl refl))
    go (x ∷ y ∷ ys) r (suc k) within =
        let e : suc k + 1 ≡ suc (k + 1) = omega arith in
        subst (λ (j : ℕ). is_lt (tag_cmp (slice_index_or (x ∷ y ∷ ys) j d).tag (slice_index_or (y ∷ ys) k d).tag) ≡ false) (sym e) (go (y ∷ ys) r.1 k (omega arith))

-- the class at a place is found by its tag
found_at : (xs : List Class) (t : Tag) (x : Class) → AreInOrder xs → Member x xs → x.tag ≡ t → find (is_class_of t) xs ≡ Some x
found_at [] t x rises m same = elim m [ ]
found_at (y ∷ ys) t x rises (inl e) same =
    ap (λ b. cond b (Some y) (find (is_class_of t) ys)) (ap (λ (u : Tag). same_tag u t) (ap (λ (z : Class). z.tag) (sym e) ∙ same) ∙ tag_itself t) ∙ ap Some (sym e)
found_at (y ∷ ys) t x rises (inr m) same =
    ap (λ b. cond b (Some y) (find (is_class_of t) ys)) (false_from_ne_true (same_tag y.tag t) (λ is.
    let tied : tag_cmp y.tag x.tag ≡ Equal = ap (tag_cmp y.tag) (same ∙ sym (tag_same y.tag t is)) ∙ tied_itself tags_total y.tag in
    false≢true (sym (ap is_lt tied) ∙ rises.0 x m)))
    ∙ found_at ys t x rises.1 m same

pub class_at : (xs : List Class) (t : Tag) (k : ℕ) (x : Class) → AreInOrder xs → k < length xs → HoldsAt (λ (y : Class). tag_cmp y.tag t ≡ Equal) xs k → x ≡ slice_index_or xs k x → Some x ≡ find (is_class_of t) xs
class_at xs t k x rises within holds is =
    let same : x.tag ≡ t = tag_tie x.tag t (ap (λ (y : Class). is_eq (tag_cmp y.tag t)) is ∙ ap is_eq (holds x)) in
    sym (found_at xs t x rises (Member-at xs k x x within (sym is)) same)

-- and where none has it, none is found
pub class_absent : (xs : List Class) (t : Tag) (k : ℕ) → AreInOrder xs
    → (IsNonDecreasingBy (λ (y : Class). ordering_index (tag_cmp y.tag t)) xs → IsPartitionPoint (λ (y : Class). tag_cmp y.tag t ≡ Less) (λ (y : Class). tag_cmp y.tag t ≡ Greater) xs k) → None ≡ find (is_class_of t) xs
class_absent xs t k rises found = sym (find_none (is_class_of t) xs (λ x m. false_from_ne_true (same_tag x.tag t) (λ same.
    let at = place xs x m in
    let halves = found (searchable_from_sorted tags_total (λ (y : Class). y.tag) xs t (in_order xs rises)) in
    let level : tag_cmp (slice_index_or xs at.0 x).tag t ≡ Equal = ap (λ (y : Class). tag_cmp y.tag t) at.2 ∙ ap (λ u. tag_cmp u t) (tag_same x.tag t same) ∙ tied_itself tags_total t in
    not_tied (tag_cmp (slice_index_or xs at.0 x).tag t) level (elim (cases_lt at.0 k) [ inl low ↦ inl (halves.0 at.0 x (omega arith) low) | inr high ↦ inr (halves.1 at.0 x high at.1) ]))))
  where
    place : (xs : List Class) (x : Class) → Member x xs → (j : ℕ) × (j < length xs) × (slice_index_or xs j x ≡ x)
    place [] x m = elim m [ ]
    place (y ∷ ys) x (inl e) = (0, omega arith, sym e)
    place (y ∷ ys) x (inr m) = let later = place ys x m in (suc later.0, (let below : later.0 < length ys = later.1 in omega arith), later.2)
