-- Which keys and values the map of a list of entries has.
use Rattle.std.proofs.Common.{◌≡◌, ℕ, suc, ◌+◌, Bool, true, false, cond, ◌&&◌, ◌||◌, List, [], ◌∷◌, length, map, sym, ap, subst, ◌∙◌, refl, arith, T}
use Rattle.std.specs.Prelude.{Option, Some, None, is_some}
use Rattle.std.specs.List.{list_any}
use Rattle.std.specs.Ordering.{eq_by_cmp, is_eq, is_lt}
use Rattle.std.specs.FinMap.{FinMap, get, insert, keys, values, entries, entries_sorted, from_entries, entries-insert, get-entries, get-from_entries, len, len-entries, len-empty, len-insert, find, put, is_sorted, IsAntisymmetric}
use Rattle.std.specs.FinMap.Entries.{by_order, below_all, same_entries}
use Rattle.std.specs.Cmp.{IsTotalOrder}
use Rattle.std.specs.declared.cmp.Ordering.{Ordering}
use Rattle.std.specs.declared.cmp.Ordering.TheVariants.{Less, Equal, Greater}
use Rattle.net_types.proofs.PassLemmas.{any_map}
use Rattle.net_types.proofs.ValueLemmas.{no_entries}
use Rattle.std.proofs.lemmas.List.{length-map}
use Rattle.std.proofs.lemmas.Bool.{or_parts, or_from}

absorbed : (a b c : Bool) → a ≡ b → (b || c) ≡ (a || (b || c))
absorbed true b c e = ap (λ x. x || c) (sym e)
absorbed false b c e = refl

turned_or : (a b c : Bool) → (a || (b || c)) ≡ (b || (a || c))
turned_or true true c = refl
turned_or true false c = refl
turned_or false b c = refl

any_keys_put : {K X : Type 0} (R : K → K → Ordering) (test : K → Bool) → ((x y : K) → R x y ≡ Equal → test x ≡ test y) → (k : K) (v : X) (es : List (K × X)) → list_any (λ (e : K × X). test e.0) (put R k v es) ≡ (test k || list_any (λ (e : K × X). test e.0) es)
any_keys_put R test alike k v [] = refl
any_keys_put {K} {X} R test alike k v (e ∷ es) =
    let has : List (K × X) → Bool = list_any (λ d. test d.0) in
    elim (R k e.0) as (λ o. R k e.0 ≡ o → has (by_order o ((k, v) ∷ e ∷ es) ((e.0, v) ∷ es) (e ∷ put R k v es)) ≡ (test k || (test e.0 || has es))) [
      | Less ↦ λ t. refl
      | Equal ↦ λ t. absorbed (test k) (test e.0) (has es) (alike k e.0 t)
      | Greater ↦ λ t. ap (λ b. test e.0 || b) (any_keys_put R test alike k v es) ∙ turned_or (test e.0) (test k) (has es)
    ] refl

-- a test of the keys finds what it finds in the list
pub any_keys : {K X : Type 0} (R : K → K → Ordering) → IsTotalOrder R → (test : K → Bool) → ((x y : K) → R x y ≡ Equal → test x ≡ test y) → (es : List (K × X)) → list_any test (keys (from_entries {R = R} es)) ≡ list_any (λ (e : K × X). test e.0) es
any_keys {K} {X} R o test alike [] = ap (λ es. list_any test (map (λ (e : K × X). e.0) es)) (no_entries K X R)
any_keys {K} {X} R o test alike (e ∷ es) =
    any_map test (λ (d : K × X). d.0) (entries (insert (from_entries {R = R} es) e.0 e.1))
    ∙ ap (list_any (λ (d : K × X). test d.0)) (entries-insert o (from_entries {R = R} es) e.0 e.1)
    ∙ any_keys_put R test alike e.0 e.1 (entries (from_entries {R = R} es))
    ∙ ap (λ b. test e.0 || b) (sym (any_map test (λ (d : K × X). d.0) (entries (from_entries {R = R} es))) ∙ any_keys R o test alike es)

-- no key comes twice
abbrev pub AreFresh : {K X : Type 0} → (K → K → Ordering) → List (K × X) → Type 0
AreFresh R [] = Unit {0}
AreFresh R (e ∷ es) = (find R e.0 es ≡ None) × AreFresh R es

not_none : {A : Type 0} (x : A) → Some x ≡ None → ⊥
not_none x e = cc

any_values_put : {K X : Type 0} (R : K → K → Ordering) (test : X → Bool) (k : K) (v : X) (es : List (K × X)) → find R k es ≡ None → list_any (λ (e : K × X). test e.1) (put R k v es) ≡ (test v || list_any (λ (e : K × X). test e.1) es)
any_values_put R test k v [] new = refl
any_values_put {K} {X} R test k v (e ∷ es) new =
    let has : List (K × X) → Bool = list_any (λ d. test d.1) in
    elim (R k e.0) as (λ o. cond (is_eq o) (Some e.1) (find R k es) ≡ None → has (by_order o ((k, v) ∷ e ∷ es) ((e.0, v) ∷ es) (e ∷ put R k v es)) ≡ (test v || (test e.1 || has es))) [
      | Less ↦ λ t. refl
      | Equal ↦ λ t. absurd (not_none e.1 t)
      | Greater ↦ λ t. ap (λ b. test e.1 || b) (any_values_put R test k v es t) ∙ turned_or (test e.1) (test v) (has es)
    ] new

-- a test of the values finds what it finds in the list, where no key comes twice
pub any_values : {K X : Type 0} (R : K → K → Ordering) → IsTotalOrder R → (test : X → Bool) → (es : List (K × X)) → AreFresh R es → list_any test (values (from_entries {R = R} es)) ≡ list_any (λ (e : K × X). test e.1) es
any_values {K} {X} R o test [] fresh = ap (λ es. list_any test (map (λ (e : K × X). e.1) es)) (no_entries K X R)
any_values {K} {X} R o test (e ∷ es) fresh =
    any_map test (λ (d : K × X). d.1) (entries (insert (from_entries {R = R} es) e.0 e.1))
    ∙ ap (list_any (λ (d : K × X). test d.1)) (entries-insert o (from_entries {R = R} es) e.0 e.1)
    ∙ any_values_put R test e.0 e.1 (entries (from_entries {R = R} es)) (sym (get-entries (from_entries {R = R} es) e.0) ∙ get-from_entries o es e.0 ∙ fresh.0)
    ∙ ap (λ b. test e.1 || b) (sym (any_map test (λ (d : K × X). d.1) (entries (from_entries {R = R} es))) ∙ any_values R o test es fresh.1)

no_values_put : {K X : Type 0} (R : K → K → Ordering) (test : X → Bool) (k : K) (v : X) (es : List (K × X)) → test v ≡ false → list_any (λ (e : K × X). test e.1) es ≡ false → list_any (λ (e : K × X). test e.1) (put R k v es) ≡ false
no_values_put R test k v [] here none = or_from (test v) false here refl
no_values_put {K} {X} R test k v (e ∷ es) here none =
    let has : List (K × X) → Bool = list_any (λ d. test d.1) in
    let parts = or_parts (test e.1) (has es) none in
    elim (R k e.0) as (λ o. has (by_order o ((k, v) ∷ e ∷ es) ((e.0, v) ∷ es) (e ∷ put R k v es)) ≡ false) [
      | Less ↦ or_from (test v) (has (e ∷ es)) here none
      | Equal ↦ or_from (test v) (has es) here parts.1
      | Greater ↦ or_from (test e.1) (has (put R k v es)) parts.0 (no_values_put R test k v es here parts.1)
    ]

-- what no entry of the list has, no value of the map has
pub no_values : {K X : Type 0} (R : K → K → Ordering) → IsTotalOrder R → (test : X → Bool) → (es : List (K × X)) → list_any (λ (e : K × X). test e.1) es ≡ false → list_any test (values (from_entries {R = R} es)) ≡ false
no_values {K} {X} R o test [] none = ap (λ es. list_any test (map (λ (e : K × X). e.1) es)) (no_entries K X R)
no_values {K} {X} R o test (e ∷ es) none =
    let parts = or_parts (test e.1) (list_any (λ (d : K × X). test d.1) es) none in
    any_map test (λ (d : K × X). d.1) (entries (insert (from_entries {R = R} es) e.0 e.1))
    ∙ ap (list_any (λ (d : K × X). test d.1)) (entries-insert o (from_entries {R = R} es) e.0 e.1)
    ∙ no_values_put R test e.0 e.1 (entries (from_entries {R = R} es)) parts.0 (sym (any_map test (λ (d : K × X). d.1) (entries (from_entries {R = R} es))) ∙ no_values R o test es parts.1)

one_longer : {K X : Type 0} (R : K → K → Ordering) (m : FinMap R X) (k : K) (n : ℕ) → get m k ≡ None → len m ≡ n → cond (is_some (get m k)) (len m) (len m + 1) ≡ suc n
one_longer R m k n new is = ap (λ o. cond (is_some o) (len m) (len m + 1)) new ∙ (let e : len m + 1 ≡ suc n = omega arith in e)

-- the map has as many entries as the list, where no key comes twice
pub len_fresh : {K X : Type 0} (R : K → K → Ordering) → IsTotalOrder R → (es : List (K × X)) → AreFresh R es → len (from_entries {R = R} es) ≡ length es
len_fresh {K} {X} R o [] fresh = len-empty R X
len_fresh {K} {X} R o (e ∷ es) fresh =
    len-insert o (from_entries {R = R} es) e.0 e.1
    ∙ one_longer R (from_entries {R = R} es) e.0 (length es) (get-from_entries o es e.0 ∙ fresh.0) (len_fresh R o es fresh.1)

pub length-keys : {K X : Type 0} {R : K → K → Ordering} (m : FinMap R X) → length (keys m) ≡ len m
length-keys {K} {X} m = length-map (entries m) (λ (e : K × X). e.0) ∙ sym (len-entries m)

-- the keys alone
abbrev marked : {K X : Type 0} → List (K × X) → List (K × Unit {0})
marked es = map (λ e. (e.0, tt)) es

below_marked : {K X : Type 0} (R : K → K → Ordering) (k : K) (es : List (K × X)) → below_all R k (marked es) ≡ below_all R k es
below_marked R k [] = refl
below_marked R k (e ∷ es) = ap (λ b. is_lt (R k e.0) && b) (below_marked R k es)

sorted_marked : {K X : Type 0} (R : K → K → Ordering) (es : List (K × X)) → is_sorted R (marked es) ≡ is_sorted R es
sorted_marked R [] = refl
sorted_marked R (e ∷ es) = ap (λ b. b && is_sorted R (marked es)) (below_marked R e.0 es) ∙ ap (λ b. below_all R e.0 es && b) (sorted_marked R es)

mark : {X : Type 0} → Option X → Option (Unit {0})
mark None = None
mark (Some x) = Some tt

find_marked : {K X : Type 0} (R : K → K → Ordering) (q : K) (es : List (K × X)) → find R q (marked es) ≡ mark (find R q es)
unfolding mark
find_marked R q [] = refl
find_marked R q (e ∷ es) = elim (eq_by_cmp R q e.0) as (λ b. cond b (Some tt) (find R q (marked es)) ≡ mark (cond b (Some e.1) (find R q es))) [ true ↦ refl | false ↦ find_marked R q es ]

same_mark : {X Y : Type 0} (a : Option X) (b : Option Y) → is_some a ≡ is_some b → mark a ≡ mark b
unfolding mark
same_mark None None e = refl
same_mark None (Some y) e = cc
same_mark (Some x) None e = cc
same_mark (Some x) (Some y) e = refl

keys_marked : {K X : Type 0} (es : List (K × X)) → map (λ e. e.0) (marked es) ≡ map (λ e. e.0) es
keys_marked [] = refl
keys_marked (e ∷ es) = ap (λ ks. e.0 ∷ ks) (keys_marked es)

-- maps that have something at the same keys have the same keys
pub same_keys : {K X Y : Type 0} (R : K → K → Ordering) → IsTotalOrder R → IsAntisymmetric R → (m : FinMap R X) (n : FinMap R Y) → ((q : K) → is_some (get m q) ≡ is_some (get n q)) → keys m ≡ keys n
same_keys {K} {X} {Y} R o same m n is =
    let ms : List (K × X) = entries m in
    let ns : List (K × Y) = entries n in
    sym (keys_marked ms)
    ∙ ap (map (λ (e : K × Unit {0}). e.0)) (same_entries R o same (marked ms) (marked ns) (subst T (sym (sorted_marked R ms)) (entries_sorted m)) (subst T (sym (sorted_marked R ns)) (entries_sorted n))
    (λ q. find_marked R q ms ∙ same_mark (find R q ms) (find R q ns) (ap is_some (sym (get-entries m q)) ∙ is q ∙ ap is_some (get-entries n q)) ∙ sym (find_marked R q ns)))
    ∙ keys_marked ns
