-- Entries whose keys rise, and their map.
use Rattle.std.proofs.Common.{◌≡◌, Bool, true, false, cond, not, List, [], length, sym, ap, ◌∙◌, refl}
use Rattle.std.specs.Prelude.{None}
use Rattle.std.specs.Cmp.{IsTotalOrder, alike_right, eq_by_cmp_equiv}
use Rattle.std.specs.Ordering.{is_eq, eq_by_cmp}
use Rattle.std.specs.declared.cmp.Ordering.{Ordering}
use Rattle.std.specs.FinMap as map
use Rattle.std.specs.FinMap.{IsAntisymmetric}
use Rattle.std.specs.FinMap.Entries.{find, put, where_key, is_sorted, is_sorted-put, is_sorted-where_key, find-where_key}
use Rattle.net_types.proofs.TestLemmas.{holds, shown}

-- the entries with other keys
abbrev pub without : {K X : Type 0} → (K → K → Ordering) → K → List (K × X) → List (K × X)
without R q es = where_key R (λ x. not (eq_by_cmp R q x)) es

pub cond_not : {A : Type 0} (b : Bool) (x y : A) → cond (not b) x y ≡ cond b y x
cond_not true x y = refl
cond_not false x y = refl

module _ {K X : Type 0} (R : K → K → Ordering) where
  pub entries_of_sorted : (es : List (K × X)) → is_sorted R es ≡ true → map.entries (map.from_sorted {R = R} es) ≡ es
  entries_of_sorted es sorted = map.entries-from_sorted R es (holds _ sorted)

  pub get_sorted : (es : List (K × X)) (q : K) → is_sorted R es ≡ true → map.get (map.from_sorted {R = R} es) q ≡ find R q es
  get_sorted es q sorted = map.get-from_sorted R es q (holds _ sorted)

  pub sorted_none : map.from_sorted {X = X} {R = R} [] ≡ map.empty
  sorted_none = map.empty_of_len (map.from_sorted {X = X} {R = R} []) (map.len-entries _ ∙ ap length (map.entries-from_sorted {X = X} R [] tt))

  pub without_sorted : (k : K) (es : List (K × X)) → is_sorted R es ≡ true → is_sorted R (without R k es) ≡ true
  without_sorted k es sorted = shown _ (is_sorted-where_key R (λ x. not (eq_by_cmp R k x)) es (holds _ sorted))

  module _ (o : IsTotalOrder R) where
    -- what is found once a key is taken out
    pub find-without : (k q : K) (es : List (K × X)) → find R q (without R k es) ≡ cond (eq_by_cmp R q k) None (find R q es)
    find-without k q es =
        find-where_key R (λ x. not (eq_by_cmp R k x)) q (λ x t. ap (λ r. not (is_eq r)) (sym (alike_right o q x k t))) es
        ∙ cond_not (eq_by_cmp R k q) _ _ ∙ ap (λ b. cond b None (find R q es)) ((eq_by_cmp_equiv o).symm k q)

    pub put_sorted : (k : K) (v : X) (es : List (K × X)) → is_sorted R es ≡ true → is_sorted R (put R k v es) ≡ true
    put_sorted k v es sorted = shown _ (is_sorted-put R o k v es (holds _ sorted))

    pub insert_sorted : (k : K) (v : X) (es : List (K × X)) → is_sorted R es ≡ true → map.from_sorted {R = R} (put R k v es) ≡ map.insert (map.from_sorted es) k v
    insert_sorted k v es sorted = map.same_entries_map _ _ (
        map.entries-from_sorted R (put R k v es) (is_sorted-put R o k v es (holds _ sorted))
        ∙ ap (put R k v) (sym (entries_of_sorted es sorted))
        ∙ sym (map.entries-insert o (map.from_sorted es) k v))

    pub remove_sorted : IsAntisymmetric R → (k : K) (es : List (K × X)) → is_sorted R es ≡ true → map.from_sorted {R = R} (without R k es) ≡ map.remove (map.from_sorted es) k
    remove_sorted same k es sorted = map.same_map o same _ _ (λ q.
        get_sorted (without R k es) q (without_sorted k es sorted)
        ∙ find-without k q es
        ∙ ap (cond (eq_by_cmp R q k) None) (sym (get_sorted es q sorted)) ∙ sym (map.get-remove o (map.from_sorted es) k q))
