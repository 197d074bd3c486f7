-- Entries whose keys rise: the first one, its removal, and lists that rise and have the same members.
use Rattle.std.proofs.Common.{◌≡◌, ℕ, ◌+◌, ◌-◌, ◌≤◌, Bool, true, false, cond, not, List, [], ◌∷◌, map, drop, length, sym, ap, subst, ◌∙◌, refl, arith}
use Rattle.std.specs.Prelude.{Some, None, is_some}
use Rattle.std.specs.Cmp.{IsTotalOrder}
use Rattle.std.specs.List.{list_any}
use Rattle.std.specs.Ordering.{eq_by_cmp, is_eq, is_lt}
use Rattle.std.specs.declared.cmp.Ordering.{Ordering}
use Rattle.std.specs.declared.cmp.Ordering.TheVariants.{Equal}
use Rattle.std.specs.FinMap.{from_sorted}
use Rattle.std.specs.FinMap.Entries.{find, is_sorted, below_all, length-put, length_without, put}
use Rattle.std.proofs.lemmas.Bool.{and_parts}
use Rattle.net_types.proofs.OrderedLemmas.{any_member, member_any, ordered_is}
use Rattle.net_types.proofs.PlaceLemmas.{entries_of_sorted}
use Rattle.net_types.proofs.RisingLemmas.{before, keys-IsRising}
use Rattle.net_types.specs.Sets.{IsRising, SameMembers}
use Rattle.ordered_map.specs.Entries.{head_of, without}
use Rattle.net_types.proofs.TieLemmas.{less}
use Rattle.net_types.proofs.TestLemmas.{holds}

-- a list that has a first item is that and the rest
pub headed : {A : Type 0} (xs : List A) (x : A) → head_of xs ≡ Some x → xs ≡ x ∷ drop 1 xs
headed [] x e = cc
headed (y ∷ ys) x e = let same : y ≡ x = cc in ap (λ z. z ∷ ys) same

-- a key takes room only where it makes them one more
pub put_room : (known : Bool) (room left old new : ℕ) → room ≤ left + cond known 0 1 → new ≡ old + cond known 0 1 → room ≤ left + (new - old)
put_room true room left old new used more = omega (arith, used, more)
put_room false room left old new used more = omega (arith, used, more)

module _ {K X : Type 0} (R : K → K → Ordering) (o : IsTotalOrder R) where
  -- a key that ties with one below all entries has none
  pub find_below : (q x : K) (es : List (K × X)) → R q x ≡ Equal → below_all R x es ≡ true → find R q es ≡ None
  find_below q x [] tie below = refl
  find_below q x (e ∷ es) tie below =
      let parts = and_parts (is_lt (R x e.0)) (below_all R x es) below in
      ap (λ r. cond (is_eq r) (Some e.1) (find R q es)) (o.congr q x e.0 tie ∙ less _ parts.0) ∙ find_below q x es tie parts.1

  without_below : (q x : K) (es : List (K × X)) → R q x ≡ Equal → below_all R x es ≡ true → without R q es ≡ es
  without_below q x [] tie below = refl
  without_below q x (e ∷ es) tie below =
      let parts = and_parts (is_lt (R x e.0)) (below_all R x es) below in
      ap (λ r. cond (not (is_eq r)) (e ∷ without R q es) (without R q es)) (o.congr q x e.0 tie ∙ less _ parts.0) ∙ ap (λ ds. e ∷ ds) (without_below q x es tie parts.1)

  -- without the first one's key the others are left
  pub without_first : (q : K) (e : K × X) (es : List (K × X)) → is_sorted R (e ∷ es) ≡ true → R q e.0 ≡ Equal → without R q (e ∷ es) ≡ es
  without_first q e es sorted tie =
      let parts = and_parts (below_all R e.0 es) (is_sorted R es) sorted in
      ap (λ r. cond (not (is_eq r)) (e ∷ without R q es) (without R q es)) tie ∙ without_below q e.0 es tie parts.0

  -- a new key makes them one more
  pub put_length : (k : K) (v : X) (es : List (K × X)) → is_sorted R es ≡ true → length (put R k v es) ≡ length es + cond (is_some (find R k es)) 0 1
  put_length k v es sorted =
      let all = length-put R o k v es (holds _ sorted) in
      elim (is_some (find R k es)) as (λ b. length (put R k v es) ≡ cond b (length es) (length es + 1) → length (put R k v es) ≡ length es + cond b 0 1) [
        | true ↦ λ e. omega (arith, e)
        | false ↦ λ e. omega (arith, e)
      ] all

  pub fewer_without : (k : K) (es : List (K × X)) → is_sorted R es ≡ true → length (without R k es) ≤ length es
  fewer_without k es sorted = let all = length_without R o k es (holds _ sorted) in omega (arith, all)

  pub keys_rise : (es : List (K × X)) → is_sorted R es ≡ true → IsRising (before R) (map (λ e. e.0) es)
  keys_rise es sorted = subst (λ (ds : List (K × X)). IsRising (before R) (map (λ e. e.0) ds)) (entries_of_sorted R es sorted) (keys-IsRising R (from_sorted es))

-- lists that rise and have the same members are one
module _ {K : Type 0} (R : K → K → Ordering) (o : IsTotalOrder R) (tie : (x y : K) → eq_by_cmp R x y ≡ true → x ≡ y) where
  pub rising_alike : (xs ys : List K) → IsRising (before R) xs → IsRising (before R) ys → SameMembers xs ys → xs ≡ ys
  rising_alike xs ys up down same = ordered_is R o tie xs ys up same ∙ sym (ordered_is R o tie ys ys down (record { onto = λ x m. m; back = λ x m. m }))

  same_members : (xs ys : List K) → ((x : K) → list_any (eq_by_cmp R x) xs ≡ list_any (eq_by_cmp R x) ys) → SameMembers xs ys
  same_members xs ys same = record {
    onto = λ x m. any_member R o tie x ys (sym (same x) ∙ member_any R o tie x xs m);
    back = λ x m. any_member R o tie x xs (same x ∙ member_any R o tie x ys m);
  }

  pub rising_by_any : (xs ys : List K) → IsRising (before R) xs → IsRising (before R) ys → ((x : K) → list_any (eq_by_cmp R x) xs ≡ list_any (eq_by_cmp R x) ys) → xs ≡ ys
  rising_by_any xs ys up down same = rising_alike xs ys up down (same_members xs ys same)
