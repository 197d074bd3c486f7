-- Look-ups and edits of entries all of whose prefixes come before a prefix, or after it.
use Rattle.std.proofs.Common.{◌≡◌, true, false, cond, not, List, [], ◌∷◌, ◌++◌, ap, ◌∙◌, refl}
use Rattle.std.specs.Prelude.{Some, None}
use Rattle.std.specs.Ordering.{is_lt, is_eq}
use Rattle.std.specs.declared.cmp.Ordering.TheVariants.{Less, Equal, Greater}
use Rattle.std.specs.FinMap.Entries.{find, put, by_order}
use Rattle.net_types.specs.Keys.{prefix_cmp}
use Rattle.net_types.specs.declared.prefix.Prefix.{Prefix}
use Rattle.prefix_map.specs.Entries.{without, above}
use Rattle.prefix_map.specs.Tries.{AllKeys}

-- ---- all prefixes of a list

pub all_of : {V : Type 0} {P Q : Prefix → Type 0} → ((p : Prefix) → P p → Q p) → (es : List (Prefix × V)) → AllKeys P es → AllKeys Q es
all_of f [] h = tt
all_of f (e ∷ es) h = (f e.0 h.0, all_of f es h.1)

pub all_append : {V : Type 0} (P : Prefix → Type 0) (es ds : List (Prefix × V)) → AllKeys P es → AllKeys P ds → AllKeys P (es ++ ds)
all_append P [] ds h k = k
all_append P (e ∷ es) ds h k = (h.0, all_append P es ds h.1 k)

pub all_put : {V : Type 0} (P : Prefix → Type 0) (q : Prefix) (v : V) (es : List (Prefix × V)) → P q → AllKeys P es → AllKeys P (put prefix_cmp q v es)
all_put P q v [] h all = (h, tt)
all_put P q v (e ∷ es) h all =
    elim (prefix_cmp q e.0) as (λ r. AllKeys P (by_order r ((q, v) ∷ e ∷ es) ((e.0, v) ∷ es) (e ∷ put prefix_cmp q v es))) [
      | Less ↦ (h, all)
      | Equal ↦ all
      | Greater ↦ (all.0, all_put P q v es h all.1)
    ]

pub all_without : {V : Type 0} (P : Prefix → Type 0) (q : Prefix) (es : List (Prefix × V)) → AllKeys P es → AllKeys P (without q es)
all_without P q [] all = tt
all_without P q (e ∷ es) all =
    elim (is_eq (prefix_cmp q e.0)) as (λ b. AllKeys P (cond (not b) (e ∷ without q es) (without q es))) [
      | true ↦ all_without P q es all.1
      | false ↦ (all.0, all_without P q es all.1)
    ]

-- ---- past the entries with smaller prefixes, and before those with greater ones

abbrev pub IsPast : {V : Type 0} → Prefix → List (Prefix × V) → Type 0
IsPast q es = AllKeys (λ p. prefix_cmp q p ≡ Greater) es

abbrev pub IsBefore : {V : Type 0} → Prefix → List (Prefix × V) → Type 0
IsBefore q es = AllKeys (λ p. prefix_cmp q p ≡ Less) es

module _ {V : Type 0} (q : Prefix) where
  pub find_past : (l m : List (Prefix × V)) → IsPast q l → find prefix_cmp q (l ++ m) ≡ find prefix_cmp q m
  find_past [] m p = refl
  find_past (e ∷ l) m p = ap (λ r. cond (is_eq r) (Some e.1) (find prefix_cmp q (l ++ m))) p.0 ∙ find_past l m p.1

  pub put_past : (v : V) (l m : List (Prefix × V)) → IsPast q l → put prefix_cmp q v (l ++ m) ≡ l ++ put prefix_cmp q v m
  put_past v [] m p = refl
  put_past v (e ∷ l) m p =
      ap (λ r. by_order r ((q, v) ∷ e ∷ (l ++ m)) ((e.0, v) ∷ (l ++ m)) (e ∷ put prefix_cmp q v (l ++ m))) p.0
      ∙ ap (λ es. e ∷ es) (put_past v l m p.1)

  pub without_past : (l m : List (Prefix × V)) → IsPast q l → without q (l ++ m) ≡ l ++ without q m
  without_past [] m p = refl
  without_past (e ∷ l) m p =
      ap (λ r. cond (not (is_eq r)) (e ∷ without q (l ++ m)) (without q (l ++ m))) p.0
      ∙ ap (λ es. e ∷ es) (without_past l m p.1)

  pub above_past : (l m : List (Prefix × V)) → IsPast q l → above q (l ++ m) ≡ above q m
  above_past [] m p = refl
  above_past (e ∷ l) m p = ap (λ r. cond (is_lt r) (e ∷ above q (l ++ m)) (above q (l ++ m))) p.0 ∙ above_past l m p.1

  pub find_none : (m : List (Prefix × V)) → IsBefore q m → find prefix_cmp q m ≡ None
  find_none [] h = refl
  find_none (e ∷ m) h = ap (λ r. cond (is_eq r) (Some e.1) (find prefix_cmp q m)) h.0 ∙ find_none m h.1

  pub put_front : (v : V) (m : List (Prefix × V)) → IsBefore q m → put prefix_cmp q v m ≡ (q, v) ∷ m
  put_front v [] h = refl
  put_front v (e ∷ m) h = ap (λ r. by_order r ((q, v) ∷ e ∷ m) ((e.0, v) ∷ m) (e ∷ put prefix_cmp q v m)) h.0

  pub without_none : (m : List (Prefix × V)) → IsBefore q m → without q m ≡ m
  without_none [] h = refl
  without_none (e ∷ m) h =
      ap (λ r. cond (not (is_eq r)) (e ∷ without q m) (without q m)) h.0 ∙ ap (λ es. e ∷ es) (without_none m h.1)

  pub above_all : (m : List (Prefix × V)) → IsBefore q m → above q m ≡ m
  above_all [] h = refl
  above_all (e ∷ m) h = ap (λ r. cond (is_lt r) (e ∷ above q m) (above q m)) h.0 ∙ ap (λ es. e ∷ es) (above_all m h.1)

  pub find_before : (l m : List (Prefix × V)) → IsBefore q m → find prefix_cmp q (l ++ m) ≡ find prefix_cmp q l
  find_before [] m h = find_none m h
  find_before (e ∷ l) m h = ap (cond (is_eq (prefix_cmp q e.0)) (Some e.1)) (find_before l m h)

  pub put_before : (v : V) (l m : List (Prefix × V)) → IsBefore q m → put prefix_cmp q v (l ++ m) ≡ put prefix_cmp q v l ++ m
  put_before v [] m h = put_front v m h
  put_before v (e ∷ l) m h =
      elim (prefix_cmp q e.0) as (λ r. by_order r ((q, v) ∷ e ∷ (l ++ m)) ((e.0, v) ∷ (l ++ m)) (e ∷ put prefix_cmp q v (l ++ m)) ≡ by_order r ((q, v) ∷ e ∷ l) ((e.0, v) ∷ l) (e ∷ put prefix_cmp q v l) ++ m) [
        | Less ↦ refl
        | Equal ↦ refl
        | Greater ↦ ap (λ es. e ∷ es) (put_before v l m h)
      ]

  pub without_before : (l m : List (Prefix × V)) → IsBefore q m → without q (l ++ m) ≡ without q l ++ m
  without_before [] m h = without_none m h
  without_before (e ∷ l) m h =
      elim (is_eq (prefix_cmp q e.0)) as (λ b. cond (not b) (e ∷ without q (l ++ m)) (without q (l ++ m)) ≡ cond (not b) (e ∷ without q l) (without q l) ++ m) [
        | true ↦ without_before l m h
        | false ↦ ap (λ es. e ∷ es) (without_before l m h)
      ]

  pub above_before : (l m : List (Prefix × V)) → IsBefore q m → above q (l ++ m) ≡ above q l ++ m
  above_before [] m h = above_all m h
  above_before (e ∷ l) m h =
      elim (is_lt (prefix_cmp q e.0)) as (λ b. cond b (e ∷ above q (l ++ m)) (above q (l ++ m)) ≡ cond b (e ∷ above q l) (above q l) ++ m) [
        | true ↦ ap (λ es. e ∷ es) (above_before l m h)
        | false ↦ above_before l m h
      ]
