-- Look-ups and edits among the entries of tries that follow one another concern the trie with the number alone.
use Rattle.std.proofs.Common.{◌≡◌, ℕ, zero, suc, ◌+◌, ◌/◌, ◌<◌, Bool, true, false, List, [], ◌∷◌, ◌++◌, drop, length, get_or, sym, ap, subst, ◌∙◌, refl, arith, append_assoc}
use Rattle.std.specs.Prelude.{Some, slice_get, slice_set}
use Rattle.std.proofs.lemmas.Bool.{and_parts}
use Rattle.std.proofs.lemmas.List.{append-nil, get_or-set_same}
use Rattle.std.specs.declared.cmp.Ordering.TheVariants.{Greater}
use Rattle.std.proofs.lemmas.Option.{same_Some, slice_get_read}
use Rattle.std.specs.FinMap.Entries.{find, put, is_sorted, below_all}
use Rattle.net_types.specs.Keys.{prefix_cmp}
use Rattle.net_types.specs.declared.prefix.Prefix.{Prefix}
use Rattle.prefix_map.specs.Entries.{entries_of, without, above}
use Rattle.prefix_map.specs.Parts.{entries_in, AreParts}
use Rattle.prefix_map.specs.Tables.{all_entries, number_of, puts, AreNumbered, IsTable}
use Rattle.prefix_map.specs.Tries.{AllKeys, IsTrie}
use Rattle.prefix_map.specs.declared.parts.Parts.{Parts}
use Rattle.prefix_map.specs.declared.parts.Parts.TheVariants.{One, Many}
use Rattle.prefix_map.specs.declared.table.Table.{Table}
use Rattle.prefix_map.specs.declared.trie.Trie.{Trie, Empty}
use Rattle.prefix_map.proofs.ListLemmas.{all_of, all_append, all_put, IsPast, IsBefore, find_past, find_before, put_past, put_before, without_past, without_before, above_past, above_before}
use Rattle.prefix_map.proofs.NodeLemmas.{IsTold, told_after}
use Rattle.prefix_map.proofs.SortLemmas.{trie_sorted, sorted_append}
use Rattle.prefix_map.proofs.StandLemmas.{before_by_address, turned}
use Rattle.prefix_map.proofs.WalkLemmas.{before_below}

-- the entries of tries stand before those of one of them, in it, and after
pub record IsSplit {V : Type 0} (n k m : ℕ) (ts : List (Trie V)) (t : Trie V) : Type 0 where
  pub front : List (Prefix × V)
  pub is : all_entries ts ≡ front ++ (entries_of t ++ all_entries (drop (suc k) ts))
  pub smaller : AllKeys (λ p. number_of p.address < m) front
  pub greater : AllKeys (λ p. m < number_of p.address) (all_entries (drop (suc k) ts))
  pub own : AllKeys (λ p. number_of p.address ≡ m) (entries_of t)
  pub halves : IsTrie t
  pub set_is : (u : Trie V) → all_entries (slice_set ts k u) ≡ front ++ (entries_of u ++ all_entries (drop (suc k) ts))
  pub set_numbered : (u : Trie V) → IsTrie u → AllKeys (λ p. number_of p.address ≡ m) (entries_of u) → AreNumbered n (slice_set ts k u)

module _ {V : Type 0} where
  later : (n m : ℕ) (ts : List (Trie V)) → m < n → AreNumbered n ts → AllKeys (λ p. m < number_of p.address) (all_entries ts)
  later n m [] less are = tt
  later n m (t ∷ ts) less are =
      all_append (λ p. m < number_of p.address) (entries_of t) (all_entries ts)
      (all_of (λ p (is : number_of p.address ≡ n). subst (λ i. m < i) (sym is) less) (entries_of t) are.1)
      (later (suc n) m ts (omega (arith, less)) are.2)

  pub split : (n k m : ℕ) (ts : List (Trie V)) (t : Trie V) → m ≡ n + k → AreNumbered n ts → slice_get ts k ≡ Some t → IsSplit n k m ts t
  split n k m [] t at are is = cc
  split n zero m (u ∷ ts) t at are is =
      let same : u ≡ t = same_Some u t is in
      let here : n ≡ m = omega (arith, at) in
      record {
        front = [];
        is = ap (λ x. entries_of x ++ all_entries ts) same;
        smaller = tt;
        greater = later (suc n) m ts (omega (arith, here)) are.2;
        own = subst (λ x. AllKeys (λ p. number_of p.address ≡ m) (entries_of x)) same (all_of (λ p (e : number_of p.address ≡ n). e ∙ here) (entries_of u) are.1);
        halves = subst (λ x. IsTrie x) same are.0;
        set_is = λ v. refl;
        set_numbered = λ v halves own. (halves, all_of (λ p (e : number_of p.address ≡ m). e ∙ sym here) (entries_of v) own, are.2);
      }
  split n (suc k) m (u ∷ ts) t at are is =
      let inner : IsSplit (suc n) k m ts t = split (suc n) k m ts t (omega (arith, at)) are.2 is in
      record {
        front = entries_of u ++ inner.front;
        is = ap (λ es. entries_of u ++ es) inner.is ∙ sym (append_assoc (entries_of u) inner.front (entries_of t ++ all_entries (drop (suc k) ts)));
        smaller = all_append (λ p. number_of p.address < m) (entries_of u) inner.front (all_of (λ p (e : number_of p.address ≡ n). subst (λ i. i < m) (sym e) (omega (arith, at))) (entries_of u) are.1) inner.smaller;
        greater = inner.greater;
        own = inner.own;
        halves = inner.halves;
        set_is = λ v. ap (λ es. entries_of u ++ es) (inner.set_is v) ∙ sym (append_assoc (entries_of u) inner.front (entries_of v ++ all_entries (drop (suc k) ts)));
        set_numbered = λ v halves own. (are.0, are.1, inner.set_numbered v halves own);
      }

module _ {V : Type 0} (table : Table V) (is : IsTable table) where
  -- the trie with a number
  pub part : (k m : ℕ) (t : Trie V) → k ≡ m → k < 65536 → t ≡ get_or table.parts.items k t → IsSplit 0 k m table.parts.items t
  part k m t same less here = split 0 k m table.parts.items t (omega (arith, same)) is.numbered (slice_get_read table.parts.items 65536 k t (sym is.whole) less here)

by_number : (a b : ℕ) → a / 65536 < b / 65536 → a < b
by_number a b less = omega (arith, less)

module _ {V : Type 0} (n k m : ℕ) (ts : List (Trie V)) (t : Trie V) (s : IsSplit n k m ts t) (q : Prefix) (at : number_of q.address ≡ m) where
  front_past : IsPast q s.front
  front_past = all_of (λ p (less : number_of p.address < m). turned p q (before_by_address p q (by_number p.address.0 q.address.0 (subst (λ i. number_of p.address < i) (sym at) less)))) s.front s.smaller

  rest_before : IsBefore q (all_entries (drop (suc k) ts))
  rest_before = all_of (λ p (more : m < number_of p.address). before_by_address q p (by_number q.address.0 p.address.0 (subst (λ i. i < number_of p.address) (sym at) more))) (all_entries (drop (suc k) ts)) s.greater

  pub told_at : IsTold q (all_entries ts) (find prefix_cmp q (entries_of t)) (λ v. s.front ++ (put prefix_cmp q v (entries_of t) ++ all_entries (drop (suc k) ts))) (s.front ++ (without q (entries_of t) ++ all_entries (drop (suc k) ts)))
  told_at = record {
    find_is = ap (find prefix_cmp q) s.is ∙ find_past q s.front _ front_past ∙ find_before q (entries_of t) _ rest_before;
    put_is = λ v. ap (put prefix_cmp q v) s.is ∙ put_past q v s.front _ front_past ∙ ap (λ es. s.front ++ es) (put_before q v (entries_of t) _ rest_before);
    without_is = ap (without q) s.is ∙ without_past q s.front _ front_past ∙ ap (λ es. s.front ++ es) (without_before q (entries_of t) _ rest_before);
  }

  pub above_at : above q (all_entries ts) ≡ above q (entries_of t) ++ all_entries (drop (suc k) ts)
  above_at = ap (above q) s.is ∙ above_past q s.front _ front_past ∙ above_before q (entries_of t) _ rest_before

  -- what a trie becomes by an edit, all become
  pub put_at : (v : V) (u : Trie V) → entries_of u ≡ put prefix_cmp q v (entries_of t) → all_entries (slice_set ts k u) ≡ put prefix_cmp q v (all_entries ts)
  put_at v u is = s.set_is u ∙ ap (λ es. s.front ++ (es ++ all_entries (drop (suc k) ts))) is ∙ sym (told_at.put_is v)

  pub without_at : (u : Trie V) → entries_of u ≡ without q (entries_of t) → all_entries (slice_set ts k u) ≡ without q (all_entries ts)
  without_at u is = s.set_is u ∙ ap (λ es. s.front ++ (es ++ all_entries (drop (suc k) ts))) is ∙ sym told_at.without_is

-- ---- the entries rise

module _ {V : Type 0} where
  tries_sorted : (n : ℕ) (ts : List (Trie V)) → AreNumbered n ts → is_sorted prefix_cmp (all_entries ts) ≡ true
  tries_sorted n [] are = refl
  tries_sorted n (t ∷ ts) are =
      sorted_append (entries_of t) (all_entries ts) (trie_sorted t are.0) (tries_sorted (suc n) ts are.2)
      (all_of (λ p (own : number_of p.address ≡ n). all_of (λ q (more : n < number_of q.address). before_by_address p q (by_number p.address.0 q.address.0 (subst (λ i. i < number_of q.address) (sym own) more))) (all_entries ts) (later (suc n) n ts (omega arith) are.2)) (entries_of t) are.1)

  pub parts_sorted : (parts : Parts V) → AreParts parts → is_sorted prefix_cmp (entries_in parts) ≡ true
  parts_sorted (One trie) halves = trie_sorted trie halves
  parts_sorted (Many table) is = tries_sorted 0 table.parts.items is.numbered

-- ---- tries that are gone through one by one, and marks

module _ {V : Type 0} where
  pub entries_append : (ts us : List (Trie V)) → all_entries (ts ++ us) ≡ all_entries ts ++ all_entries us
  entries_append [] us = refl
  entries_append (t ∷ ts) us = ap (λ es. entries_of t ++ es) (entries_append ts us) ∙ sym (append_assoc (entries_of t) (all_entries ts) (all_entries us))

  -- one more trie, without entries
  pub numbered_more : (n : ℕ) (ts : List (Trie V)) → AreNumbered n ts → AreNumbered n (ts ++ Empty ∷ [])
  numbered_more n [] are = (tt, tt, tt)
  numbered_more n (t ∷ ts) are = (are.0, are.1, numbered_more (suc n) ts are.2)

mark_stays : (marks : List Bool) (i n : ℕ) → get_or marks n false ≡ true → get_or (slice_set marks i true) n false ≡ true
mark_stays [] i n there = there
mark_stays (m ∷ ms) zero zero there = refl
mark_stays (m ∷ ms) zero (suc n) there = there
mark_stays (m ∷ ms) (suc i) zero there = there
mark_stays (m ∷ ms) (suc i) (suc n) there = mark_stays ms i n there

-- a prefix's length is marked where it is put
pub all_marked : {V : Type 0} (marks : List Bool) (q : Prefix) (v : V) (es : List (Prefix × V)) → q.len < length marks → AllKeys (λ p. get_or marks p.len false ≡ true) es → AllKeys (λ p. get_or (slice_set marks q.len true) p.len false ≡ true) (put prefix_cmp q v es)
all_marked marks q v es within marked =
    all_put (λ p. get_or (slice_set marks q.len true) p.len false ≡ true) q v es (get_or-set_same marks q.len true false within)
    (all_of (λ p (there : get_or marks p.len false ≡ true). mark_stays marks q.len p.len there) es marked)

-- ---- entries that are put one by one

module _ {V : Type 0} where
  pub puts_append : (ds cs es : List (Prefix × V)) → puts (ds ++ cs) es ≡ puts cs (puts ds es)
  puts_append [] cs es = refl
  puts_append (d ∷ ds) cs es = puts_append ds cs (put prefix_cmp d.0 d.1 es)

  puts_last : (ds es : List (Prefix × V)) → is_sorted prefix_cmp ds ≡ true → AllKeys (λ p. IsPast p es) ds → puts ds es ≡ es ++ ds
  puts_last [] es rise past = sym (append-nil es)
  puts_last (d ∷ ds) es rise past =
      let parts = and_parts (below_all prefix_cmp d.0 ds) (is_sorted prefix_cmp ds) rise in
      ap (puts ds) ((told_after d.0 es past.0).put_is d.1)
      ∙ puts_last ds (es ++ d ∷ []) parts.1 (past_more d es ds past.1 (before_below d.0 ds parts.0))
      ∙ append_assoc es (d ∷ []) ds
    where
      past_more : (d : Prefix × V) (es ds : List (Prefix × V)) → AllKeys (λ p. IsPast p es) ds → IsBefore d.0 ds → AllKeys (λ p. IsPast p (es ++ d ∷ [])) ds
      past_more d es [] past before = tt
      past_more d es (x ∷ ds) past before = (all_append (λ p. prefix_cmp x.0 p ≡ Greater) es (d ∷ []) past.0 (turned d.0 x.0 before.0, tt), past_more d es ds past.1 before.1)

  -- those that rise, put where there are none
  pub puts_rising : (ds : List (Prefix × V)) → is_sorted prefix_cmp ds ≡ true → puts ds [] ≡ ds
  puts_rising ds rise = puts_last ds [] rise (none ds)
    where
      none : (cs : List (Prefix × V)) → AllKeys (λ p. Unit {0}) cs
      none [] = tt
      none (c ∷ cs) = (tt, none cs)
