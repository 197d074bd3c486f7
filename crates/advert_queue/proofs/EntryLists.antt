-- Entries whose keys rise: one more behind them, and what the map has of each.
use Rattle.std.proofs.Common.{◌≡◌, ℕ, suc, ◌+◌, ◌≤◌, arith, length, Bool, true, false, cond, List, [], ◌∷◌, ◌++◌, map, filter, sym, ap, subst, ◌∙◌, refl, inl, inr}
use Rattle.std.specs.Prelude.{Some, None}
use Rattle.std.specs.Cmp.{IsTotalOrder}
use Rattle.std.specs.FinMap.{FinMap, insert, from_sorted, get-insert, same_map, IsAntisymmetric}
use Rattle.std.specs.FinMap.Entries.{find, is_sorted, below_all, find-append}
use Rattle.std.specs.Ordering.{eq_by_cmp, is_eq, ordering_reverse}
use Rattle.std.specs.declared.cmp.Ordering.{Ordering}
use Rattle.std.specs.declared.cmp.Ordering.TheVariants.{Greater}
use Rattle.std.proofs.lemmas.Bool.{and_parts}
use Rattle.std.proofs.lemmas.List.{append_assoc}
use Rattle.events.specs.declared.Entry.{Entry}
use Rattle.net_types.proofs.OrderLemmas.{prefixes_total}
use Rattle.net_types.proofs.PlaceLemmas.{get_sorted}
use Rattle.net_types.proofs.TieLemmas.{prefix_cmp-IsAntisymmetric, ties_itself}
use Rattle.net_types.proofs.ValueLemmas.{later_apart}
use Rattle.net_types.specs.Keys.{prefix_cmp}
use Rattle.net_types.specs.Sets.{Member}
use Rattle.net_types.specs.declared.prefix.Prefix.{Prefix}
use Rattle.net_types.proofs.TestLemmas.{holds}
use Rattle.ordered_map.proofs.SplitLemmas.{below_entry, sorted_front}

module _ {K X : Type 0} (R : K → K → Ordering) where
  module _ (o : IsTotalOrder R) where
    -- the next key isn't among those before
    not_before : (xs : List (K × X)) (e : K × X) (ys : List (K × X)) → is_sorted R (xs ++ e ∷ ys) ≡ true → find R e.0 xs ≡ None
    not_before [] e ys sorted = refl
    not_before (x ∷ xs) e ys sorted =
        let parts = and_parts (below_all R x.0 (xs ++ e ∷ ys)) (is_sorted R (xs ++ e ∷ ys)) sorted in
        let above : R e.0 x.0 ≡ Greater = o.antisymm e.0 x.0 ∙ ap ordering_reverse (below_entry R x.0 xs e ys parts.0) in
        ap (λ r. cond (is_eq r) (Some x.1) (find R e.0 xs)) above ∙ not_before xs e ys parts.1

    -- to put the next entry in is to put it behind
    pub put_next : IsAntisymmetric R → (xs : List (K × X)) (k : K) (v : X) (ys : List (K × X)) → is_sorted R (xs ++ (k, v) ∷ ys) ≡ true → insert (from_sorted {R = R} xs) k v ≡ from_sorted (xs ++ (k, v) ∷ [])
    put_next same xs k v ys sorted =
        let one : (xs ++ (k, v) ∷ []) ++ ys ≡ xs ++ (k, v) ∷ ys = append_assoc xs ((k, v) ∷ []) ys in
        let longer : is_sorted R (xs ++ (k, v) ∷ []) ≡ true = sorted_front R (xs ++ (k, v) ∷ []) ys (ap (is_sorted R) one ∙ sorted) in
        same_map o same (insert (from_sorted {R = R} xs) k v) (from_sorted (xs ++ (k, v) ∷ [])) (λ q.
        get-insert o (from_sorted {R = R} xs) k v q
        ∙ ap (cond (eq_by_cmp R q k) (Some v)) (get_sorted R xs q (sorted_front R xs ((k, v) ∷ ys) sorted))
        ∙ sym (find-append R o xs k v q (not_before xs (k, v) ys sorted))
        ∙ sym (get_sorted R (xs ++ (k, v) ∷ []) q longer))

    -- a key's first entry is its only one
    pub found_itself : (es : List (K × X)) (e : K × X) → is_sorted R es ≡ true → Member e es → find R e.0 es ≡ Some e.1
    found_itself [] e sorted m = elim m [ ]
    found_itself (d ∷ es) e sorted (inl same) =
        subst (λ (x : K × X). find R x.0 (d ∷ es) ≡ Some x.1) (sym same) (ap (λ b. cond b (Some d.1) (find R d.0 es)) (ties_itself o d.0))
    found_itself (d ∷ es) e sorted (inr m) =
        let parts = and_parts (below_all R d.0 es) (is_sorted R es) sorted in
        let later = found_itself es e parts.1 m in
        ap (λ b. cond b (Some d.1) (find R e.0 es)) (later_apart R o d.0 e.0 e.1 es (holds _ parts.0) later) ∙ later

kept_case : {A B : Type 0} (f : A → B) (x : A) (xs : List A) (ys : List B) (a b : Bool) → a ≡ b → map f xs ≡ ys → map f (cond a (x ∷ xs) xs) ≡ cond b (f x ∷ ys) ys
kept_case f x xs ys true true e h = ap (λ zs. f x ∷ zs) h
kept_case f x xs ys false false e h = h
kept_case f x xs ys true false e h = absurd (cc)
kept_case f x xs ys false true e h = absurd (cc)

-- a test of what is made of each
pub map-filter : {A B : Type 0} (f : A → B) (test : A → Bool) (of : B → Bool) (xs : List A) → ((x : A) → Member x xs → test x ≡ of (f x)) → map f (filter test xs) ≡ filter of (map f xs)
map-filter f test of [] h = refl
map-filter f test of (x ∷ xs) h = kept_case f x (filter test xs) (filter of (map f xs)) (test x) (of (f x)) (h x (inl refl)) (map-filter f test of xs (λ y m. h y (inr m)))

-- ---- a walk over entries, one of which is put in at each step

pub all_next : {A : Type 0} (ys rest later : List A) (x : A) (es : List A) → ys ++ rest ≡ es → rest ≡ x ∷ later → (ys ++ x ∷ []) ++ later ≡ es
all_next ys rest later x es all e = append_assoc ys (x ∷ []) later ∙ ap (λ zs. ys ++ zs) (sym e) ∙ all

-- the map has the entries so far, and the next one
pub so_far_next : (ys rest later : List (Prefix × Entry)) (k : Prefix) (v : Entry) (es : List (Prefix × Entry)) → is_sorted prefix_cmp es ≡ true → ys ++ rest ≡ es → rest ≡ (k, v) ∷ later → (m n : FinMap prefix_cmp Entry) → m ≡ from_sorted ys → n ≡ insert m k v → n ≡ from_sorted (ys ++ (k, v) ∷ [])
so_far_next ys rest later k v es sorted all e m n so_far put =
    let is : ys ++ (k, v) ∷ later ≡ es = ap (λ zs. ys ++ zs) (sym e) ∙ all in
    put ∙ ap (λ (q : FinMap prefix_cmp Entry). insert q k v) so_far
    ∙ put_next prefix_cmp prefixes_total prefix_cmp-IsAntisymmetric ys k v later (ap (is_sorted prefix_cmp) is ∙ sorted)

at_most_one : (b : Bool) → cond b 0 1 ≤ 1
at_most_one true = omega arith
at_most_one false = omega arith

pub room_next : {A : Type 0} (rest later : List A) (x : A) (b : Bool) (old new : ℕ) → rest ≡ x ∷ later → length rest ≤ old → old ≤ new + cond b 0 1 → length later ≤ new
room_next rest later x b old new e room used =
    let longer : length rest ≡ suc (length later) = ap length e in
    omega (arith, at_most_one b)
