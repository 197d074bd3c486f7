-- How the numbers of members change with one prefix.
use Rattle.std.proofs.Common.{◌≡◌, ℕ, ◌+◌, ◌≤◌, ◌<◌, Bool, true, false, cond, not, T, List, [], ◌∷◌, length, sym, ap, subst, ◌∙◌, refl, arith}
use Rattle.std.specs.Prelude.{Some, ◌↔◌}
use Rattle.std.specs.Ordering.{eq_by_cmp, is_eq}
use Rattle.std.specs.declared.cmp.Ordering.TheVariants.{Less, Equal, Greater}
use Rattle.std.specs.FinMap.{FinMap, get, insert, remove, empty, entries, entries_sorted, get-entries, entries-insert}
use Rattle.std.specs.FinMap.Entries.{find, put, is_sorted, by_order}
use Rattle.net_types.proofs.OrderLemmas.{prefixes_total, tags_total}
use Rattle.net_types.proofs.PlaceLemmas.{without}
use Rattle.net_types.proofs.TieLemmas.{prefix_cmp-IsAntisymmetric, tag_tie, ties_itself}
use Rattle.net_types.proofs.ValueLemmas.{no_entries, later_apart}
use Rattle.net_types.specs.Keys.{prefix_cmp, tag_cmp}
use Rattle.net_types.specs.declared.address.Tag.{Tag}
use Rattle.net_types.specs.declared.prefix.Prefix.{Prefix}
use Rattle.prefix_classes.proofs.BelowLemmas.{first_below, rest_sorted, find_before, without_first, entries-remove}
use Rattle.prefix_classes.specs.Classes.{is_tag, has_tag, count_of, members}
use Rattle.net_types.proofs.TestLemmas.{shown}

-- a prefix's new tag, in the list
count_put : (t : Tag) (k : Prefix) (v : Tag) (es : List (Prefix × Tag)) → is_sorted prefix_cmp es ≡ true → count_of t (put prefix_cmp k v es) + has_tag t (find prefix_cmp k es) ≡ count_of t es + is_tag t v
count_put t k v [] sorted = omega arith
count_put t k v (e ∷ es) sorted =
    elim (prefix_cmp k e.0) as (λ r. prefix_cmp k e.0 ≡ r → count_of t (by_order r ((k, v) ∷ e ∷ es) ((e.0, v) ∷ es) (e ∷ put prefix_cmp k v es)) + has_tag t (cond (is_eq r) (Some e.1) (find prefix_cmp k es)) ≡ is_tag t e.1 + count_of t es + is_tag t v) [
      | Less ↦ λ p. let none = ap (has_tag t) (find_before prefix_cmp prefixes_total k e es sorted p) in omega (arith, none)
      | Equal ↦ λ p. omega arith
      | Greater ↦ λ p. let rest = count_put t k v es (rest_sorted prefix_cmp e es sorted) in omega (arith, rest)
    ] refl

-- a prefix less, in the list
count_without : (t : Tag) (k : Prefix) (es : List (Prefix × Tag)) → is_sorted prefix_cmp es ≡ true → count_of t (without prefix_cmp k es) + has_tag t (find prefix_cmp k es) ≡ count_of t es
count_without t k [] sorted = omega arith
count_without t k (e ∷ es) sorted =
    elim (prefix_cmp k e.0) as (λ r. prefix_cmp k e.0 ≡ r → count_of t (cond (not (is_eq r)) (e ∷ without prefix_cmp k es) (without prefix_cmp k es)) + has_tag t (cond (is_eq r) (Some e.1) (find prefix_cmp k es)) ≡ is_tag t e.1 + count_of t es) [
      | Less ↦ λ p. let rest = count_without t k es (rest_sorted prefix_cmp e es sorted) in omega (arith, rest)
      | Equal ↦ λ p. let all_other = ap (count_of t) (without_first prefix_cmp prefixes_total k e es sorted p) in omega (arith, all_other)
      | Greater ↦ λ p. let rest = count_without t k es (rest_sorted prefix_cmp e es sorted) in omega (arith, rest)
    ] refl

pub members-insert : (m : FinMap prefix_cmp Tag) (p : Prefix) (t u : Tag) → members (insert m p t) u + has_tag u (get m p) ≡ members m u + is_tag u t
members-insert m p t u = (λ i. count_of u (entries-insert prefixes_total m p t i) + has_tag u (get-entries m p i)) ∙ count_put u p t (entries m) (shown _ (entries_sorted m))

pub members-remove : (m : FinMap prefix_cmp Tag) (p : Prefix) (u : Tag) → members (remove m p) u + has_tag u (get m p) ≡ members m u
members-remove m p u = (λ i. count_of u (entries-remove prefix_cmp prefixes_total prefix_cmp-IsAntisymmetric m p i) + has_tag u (get-entries m p i)) ∙ count_without u p (entries m) (shown _ (entries_sorted m))

pub members-empty : (t : Tag) → members empty t ≡ 0
members-empty t = ap (count_of t) (no_entries Prefix Tag prefix_cmp)

is_tag-le : (t u : Tag) → is_tag t u ≤ 1
is_tag-le t u = elim (eq_by_cmp tag_cmp t u) as (λ b. cond b 1 0 ≤ 1) [ true ↦ omega arith | false ↦ omega arith ]

count_of-le : (t : Tag) (es : List (Prefix × Tag)) → count_of t es ≤ length es
count_of-le t [] = omega arith
count_of-le t (e ∷ es) = omega (arith, is_tag-le t e.1, count_of-le t es)

pub members-le : (m : FinMap prefix_cmp Tag) (t : Tag) → members m t ≤ length (entries m)
members-le m t = count_of-le t (entries m)

pub is_tag-itself : (t : Tag) → is_tag t t ≡ 1
is_tag-itself t = ap (λ b. let one : ℕ = cond b 1 0 in one) (ties_itself tags_total t)

-- a prefix with the tag counts for it
pub some_member : (m : FinMap prefix_cmp Tag) (p : Prefix) (t : Tag) → get m p ≡ Some t → 0 < members m t
some_member m p t is = let all = members-remove m p t in let one = ap (has_tag t) is in let itself = is_tag-itself t in omega (arith, all, one, itself)

-- what is found among later entries is found among all
pub found_later : (e : Prefix × Tag) (es : List (Prefix × Tag)) (p : Prefix) (t : Tag) → is_sorted prefix_cmp (e ∷ es) ≡ true → find prefix_cmp p es ≡ Some t → find prefix_cmp p (e ∷ es) ≡ Some t
found_later e es p t sorted is =
    let apart = later_apart prefix_cmp prefixes_total e.0 p t es (subst T (sym (first_below prefix_cmp e es sorted)) tt) is in
    ap (λ b. cond b (Some e.1) (find prefix_cmp p es)) apart ∙ is

-- where no prefix has the tag, no entry counts for it
none_counted : (t : Tag) (es : List (Prefix × Tag)) → is_sorted prefix_cmp es ≡ true → ((p : Prefix) → find prefix_cmp p es ≡ Some t → ⊥) → count_of t es ≡ 0
none_counted t [] sorted none = refl
none_counted t (e ∷ es) sorted none =
    let rest = none_counted t es (rest_sorted prefix_cmp e es sorted) (λ p is. none p (found_later e es p t sorted is)) in
    elim (eq_by_cmp tag_cmp t e.1) as (λ b. eq_by_cmp tag_cmp t e.1 ≡ b → cond b 1 0 + count_of t es ≡ 0) [
      | true ↦ λ tie.
          let same : e.1 ≡ t = sym (tag_tie t e.1 tie) in
          absurd (none e.0 (ap (λ b. cond b (Some e.1) (find prefix_cmp e.0 es)) (ties_itself prefixes_total e.0) ∙ ap Some same))
      | false ↦ λ tie. omega (arith, rest)
    ] refl

pub no_members : (m : FinMap prefix_cmp Tag) (t : Tag) → (members m t ≡ 0) ↔ ((p : Prefix) → ¬ (get m p ≡ Some t))
no_members m t = (
  λ none p is. (let some = some_member m p t is in omega (arith, some, none)),
  λ none. none_counted t (entries m) (shown _ (entries_sorted m)) (λ p is. none p (get-entries m p ∙ is)),
)

-- where an entry counts for a tag, some prefix has it
counted_member : (t : Tag) (es : List (Prefix × Tag)) → is_sorted prefix_cmp es ≡ true → 0 < count_of t es → (p : Prefix) × (find prefix_cmp p es ≡ Some t)
counted_member t [] sorted some = absurd (omega arith)
counted_member t (e ∷ es) sorted some = by (eq_by_cmp tag_cmp t e.1) refl some (counted_member t es (rest_sorted prefix_cmp e es sorted))
  where
    by : (b : Bool) → eq_by_cmp tag_cmp t e.1 ≡ b → 0 < cond b 1 0 + count_of t es → (0 < count_of t es → (p : Prefix) × (find prefix_cmp p es ≡ Some t)) → (p : Prefix) × (find prefix_cmp p (e ∷ es) ≡ Some t)
    by true tie here rest =
        let same : e.1 ≡ t = sym (tag_tie t e.1 tie) in
        (e.0, ap (λ b. cond b (Some e.1) (find prefix_cmp e.0 es)) (ties_itself prefixes_total e.0) ∙ ap Some same)
    by false apart later rest = let one = rest (omega (arith, later)) in (one.0, found_later e es one.0 t sorted one.1)

pub has_member : (m : FinMap prefix_cmp Tag) (t : Tag) → 0 < members m t → (p : Prefix) × (get m p ≡ Some t)
has_member m t some = let one = counted_member t (entries m) (shown _ (entries_sorted m)) some in (one.0, get-entries m one.0 ∙ one.1)
