-- The entries of places are sorted, and what is found of a tag and becomes of its value is so at the place of its number.
use Rattle.std.proofs.Common.{◌≡◌, ℕ, zero, suc, ◌+◌, ◌<◌, ◌≤◌, ◌^◌, ◌-◌, drop, drop-cons, get_or, take, length-drop, Bool, true, false, cond, not, ◌&&◌, List, [], ◌∷◌, ◌++◌, length, map, add-one, sym, ap, subst, ◌∙◌, refl, arith}
use Rattle.std.specs.Prelude.{Option, Some, None, is_some, slice_set, unwrap_or}
use Rattle.std.specs.Cmp.{nat_cmp_is}
use Rattle.std.specs.Option.{option_map}
use Rattle.std.specs.Ordering.{is_eq, is_lt}
use Rattle.std.specs.declared.cmp.Ordering.TheVariants.{Less, Equal, Greater}
use Rattle.std.specs.FinMap.Entries.{find, put, is_sorted, below_all, by_order}
use Rattle.std.proofs.Math.Seq.{take-length}
use Rattle.std.proofs.lemmas.List.{length-set, length-map}
use Rattle.net_types.specs.declared.address.Tag.{Tag}
use Rattle.net_types.specs.Keys.{tag_cmp}
use Rattle.ordered_map.specs.Changes.{changed_all, changed_at, changed_or_put}
use Rattle.ordered_map.specs.Entries.{above, without, without_each}
use Rattle.ordered_map.specs.Lapsed.{with_value, lasting, lapsing}
use Rattle.tag_table.specs.Held.{Held}
use Rattle.tag_table.specs.Entries.{tag_of, entries_from, entries_of, value_in, IsTable}

-- ---- how a tag lies to one of a number

less : (q : Tag) (n : ℕ) → q.0 < n → tag_cmp q (tag_of n) ≡ Less
less q n h = sym (nat_cmp_is q.0 n Less h)

tie : (q : Tag) (n : ℕ) → q.0 ≡ n → tag_cmp q (tag_of n) ≡ Equal
tie q n h = sym (nat_cmp_is q.0 n Equal h)

more : (q : Tag) (n : ℕ) → n < q.0 → tag_cmp q (tag_of n) ≡ Greater
more q n h = sym (nat_cmp_is q.0 n Greater h)

same_tag : (q : Tag) (n : ℕ) → q.0 ≡ n → q ≡ tag_of n
same_tag q n e = ap tag_of e

module _ {V : Type 0} where
  -- ---- past the tag

  below : (q : Tag) (n : ℕ) (ps : List (Option V)) → q.0 < n → below_all tag_cmp q (entries_from n ps) ≡ true
  below q n [] h = refl
  below q n (None ∷ ps) h = below q (n + 1) ps (omega arith)
  below q n (Some v ∷ ps) h = λ k. is_lt (less q n h k) && below q (n + 1) ps (omega arith) k

  pub rises : (n : ℕ) (ps : List (Option V)) → is_sorted tag_cmp (entries_from n ps) ≡ true
  rises n [] = refl
  rises n (None ∷ ps) = rises (n + 1) ps
  rises n (Some v ∷ ps) = λ k. below (tag_of n) (n + 1) ps (omega arith) k && rises (n + 1) ps k

  found_low : (q : Tag) (n : ℕ) (ps : List (Option V)) → q.0 < n → find tag_cmp q (entries_from n ps) ≡ None
  found_low q n [] h = refl
  found_low q n (None ∷ ps) h = found_low q (n + 1) ps (omega arith)
  found_low q n (Some v ∷ ps) h = λ k. cond (is_eq (less q n h k)) (Some v) (found_low q (n + 1) ps (omega arith) k)

  put_low : (q : Tag) (v : V) (n : ℕ) (ps : List (Option V)) → q.0 < n → put tag_cmp q v (entries_from n ps) ≡ (q, v) ∷ entries_from n ps
  put_low q v n [] h = refl
  put_low q v n (None ∷ ps) h = put_low q v (n + 1) ps (omega arith)
  put_low q v n (Some w ∷ ps) h = λ k. by_order (less q n h k) ((q, v) ∷ (tag_of n, w) ∷ entries_from (n + 1) ps) ((tag_of n, v) ∷ entries_from (n + 1) ps) ((tag_of n, w) ∷ put tag_cmp q v (entries_from (n + 1) ps))

  without_low : (q : Tag) (n : ℕ) (ps : List (Option V)) → q.0 < n → without tag_cmp q (entries_from n ps) ≡ entries_from n ps
  without_low q n [] h = refl
  without_low q n (None ∷ ps) h = without_low q (n + 1) ps (omega arith)
  without_low q n (Some v ∷ ps) h = let rest = without_low q (n + 1) ps (omega arith) in λ k. cond (not (is_eq (less q n h k))) ((tag_of n, v) ∷ rest k) (rest k)

  changed_low : (q : Tag) (f : V → V) (n : ℕ) (ps : List (Option V)) → q.0 < n → changed_at tag_cmp q f (entries_from n ps) ≡ entries_from n ps
  changed_low q f n [] h = refl
  changed_low q f n (None ∷ ps) h = changed_low q f (n + 1) ps (omega arith)
  changed_low q f n (Some v ∷ ps) h = λ k. (tag_of n, cond (is_eq (less q n h k)) (f v) v) ∷ changed_low q f (n + 1) ps (omega arith) k

  above_low : (q : Tag) (n : ℕ) (ps : List (Option V)) → q.0 < n → above tag_cmp q (entries_from n ps) ≡ entries_from n ps
  above_low q n [] h = refl
  above_low q n (None ∷ ps) h = above_low q (n + 1) ps (omega arith)
  above_low q n (Some v ∷ ps) h = let rest = above_low q (n + 1) ps (omega arith) in λ k. cond (is_lt (less q n h k)) ((tag_of n, v) ∷ rest k) (rest k)

  -- ---- at the place of its number

  found : (q : Tag) (n i : ℕ) (ps : List (Option V)) → q.0 ≡ n + i → find tag_cmp q (entries_from n ps) ≡ value_in ps i
  found q n i [] e = refl
  found q n zero (None ∷ ps) e = found_low q (n + 1) ps (omega arith)
  found q n zero (Some v ∷ ps) e = let here : q.0 ≡ n = omega arith in λ k. cond (is_eq (tie q n here k)) (Some v) (find tag_cmp q (entries_from (n + 1) ps))
  found q n (suc i) (None ∷ ps) e = found q (n + 1) i ps (omega arith)
  found q n (suc i) (Some v ∷ ps) e = let past : n < q.0 = omega arith in λ k. cond (is_eq (more q n past k)) (Some v) (found q (n + 1) i ps (omega arith) k)

  put_set : (q : Tag) (v : V) (n i : ℕ) (ps : List (Option V)) → q.0 ≡ n + i → i < length ps → put tag_cmp q v (entries_from n ps) ≡ entries_from n (slice_set ps i (Some v))
  put_set q v n i [] e h = absurd (omega arith)
  put_set q v n zero (None ∷ ps) e h = put_low q v (n + 1) ps (omega arith) ∙ ap (λ t. (t, v) ∷ entries_from (n + 1) ps) (same_tag q n (omega arith))
  put_set q v n zero (Some w ∷ ps) e h =
      let here : q.0 ≡ n = omega arith in
      λ k. by_order (tie q n here k) ((q, v) ∷ (tag_of n, w) ∷ entries_from (n + 1) ps) ((tag_of n, v) ∷ entries_from (n + 1) ps) ((tag_of n, w) ∷ put tag_cmp q v (entries_from (n + 1) ps))
  put_set q v n (suc i) (None ∷ ps) e h = put_set q v (n + 1) i ps (omega arith) (omega arith)
  put_set q v n (suc i) (Some w ∷ ps) e h =
      let past : n < q.0 = omega arith in
      let rest = put_set q v (n + 1) i ps (omega arith) (omega arith) in
      λ k. by_order (more q n past k) ((q, v) ∷ (tag_of n, w) ∷ entries_from (n + 1) ps) ((tag_of n, v) ∷ entries_from (n + 1) ps) ((tag_of n, w) ∷ rest k)

  without_set : (q : Tag) (n i : ℕ) (ps : List (Option V)) → q.0 ≡ n + i → without tag_cmp q (entries_from n ps) ≡ entries_from n (slice_set ps i None)
  without_set q n i [] e = refl
  without_set q n zero (None ∷ ps) e = without_low q (n + 1) ps (omega arith)
  without_set q n zero (Some v ∷ ps) e =
      let here : q.0 ≡ n = omega arith in
      let rest = without_low q (n + 1) ps (omega arith) in
      λ k. cond (not (is_eq (tie q n here k))) ((tag_of n, v) ∷ rest k) (rest k)
  without_set q n (suc i) (None ∷ ps) e = without_set q (n + 1) i ps (omega arith)
  without_set q n (suc i) (Some v ∷ ps) e =
      let past : n < q.0 = omega arith in
      let rest = without_set q (n + 1) i ps (omega arith) in
      λ k. cond (not (is_eq (more q n past k))) ((tag_of n, v) ∷ rest k) (rest k)

  changed_set : (q : Tag) (f : V → V) (n i : ℕ) (ps : List (Option V)) → q.0 ≡ n + i → changed_at tag_cmp q f (entries_from n ps) ≡ entries_from n (slice_set ps i (option_map f (value_in ps i)))
  changed_set q f n i [] e = refl
  changed_set q f n zero (None ∷ ps) e = changed_low q f (n + 1) ps (omega arith)
  changed_set q f n zero (Some v ∷ ps) e = let here : q.0 ≡ n = omega arith in λ k. (tag_of n, cond (is_eq (tie q n here k)) (f v) v) ∷ changed_low q f (n + 1) ps (omega arith) k
  changed_set q f n (suc i) (None ∷ ps) e = changed_set q f (n + 1) i ps (omega arith)
  changed_set q f n (suc i) (Some v ∷ ps) e = let past : n < q.0 = omega arith in λ k. (tag_of n, cond (is_eq (more q n past k)) (f v) v) ∷ changed_set q f (n + 1) i ps (omega arith) k

  pub changed_each : (f : V → V) (n : ℕ) (ps : List (Option V)) → changed_all f (entries_from n ps) ≡ entries_from n (map (option_map f) ps)
  changed_each f n [] = refl
  changed_each f n (None ∷ ps) = changed_each f (n + 1) ps
  changed_each f n (Some v ∷ ps) = ap (λ es. (tag_of n, f v) ∷ es) (changed_each f (n + 1) ps)

  above_drop : (q : Tag) (n i : ℕ) (ps : List (Option V)) → q.0 ≡ n + i → above tag_cmp q (entries_from n ps) ≡ entries_from (q.0 + 1) (drop (suc i) ps)
  above_drop q n i [] e = refl
  above_drop q n zero (None ∷ ps) e = above_low q (n + 1) ps (omega arith) ∙ (let here : n ≡ q.0 = omega arith in ap (λ m. entries_from (m + 1) ps) here)
  above_drop q n zero (Some v ∷ ps) e =
      let here : q.0 ≡ n = omega arith in
      let rest = above_low q (n + 1) ps (omega arith) ∙ ap (λ m. entries_from (m + 1) ps) (sym here) in
      λ k. cond (is_lt (tie q n here k)) ((tag_of n, v) ∷ above tag_cmp q (entries_from (n + 1) ps)) (rest k)
  above_drop q n (suc i) (None ∷ ps) e = above_drop q (n + 1) i ps (omega arith)
  above_drop q n (suc i) (Some v ∷ ps) e =
      let past : n < q.0 = omega arith in
      let rest = above_drop q (n + 1) i ps (omega arith) in
      λ k. cond (is_lt (more q n past k)) ((tag_of n, v) ∷ above tag_cmp q (entries_from (n + 1) ps)) (rest k)

  above_past : (q : Tag) (n : ℕ) (ps : List (Option V)) → n + length ps ≤ q.0 → above tag_cmp q (entries_from n ps) ≡ []
  above_past q n [] h = refl
  above_past q n (None ∷ ps) h = above_past q (n + 1) ps (omega arith)
  above_past q n (Some v ∷ ps) h =
      let past : n < q.0 = omega arith in
      λ k. cond (is_lt (more q n past k)) ((tag_of n, v) ∷ above tag_cmp q (entries_from (n + 1) ps)) (above_past q (n + 1) ps (omega arith) k)

  -- ---- how many there are

  abbrev one : Option V → ℕ
  one o = cond (is_some o) 1 0

  size_set : (n i : ℕ) (p : Option V) (ps : List (Option V)) → (is_some p ≡ true → i < length ps) → length (entries_from n (slice_set ps i p)) + one (value_in ps i) ≡ length (entries_from n ps) + one p
  size_set n i None [] h = refl
  size_set n i (Some v) [] h = absurd (let none = h refl in omega arith)
  size_set n zero None (None ∷ ps) h = refl
  size_set n zero None (Some w ∷ ps) h = omega arith
  size_set n zero (Some v) (None ∷ ps) h = omega arith
  size_set n zero (Some v) (Some w ∷ ps) h = refl
  size_set n (suc i) p (None ∷ ps) h = size_set (n + 1) i p ps (λ some. let within = h some in omega arith)
  size_set n (suc i) p (Some w ∷ ps) h =
      let rest = size_set (n + 1) i p ps (λ some. let within = h some in omega arith) in
      omega (arith, rest)

  -- ---- of a whole table

  pub found_at : (q : Tag) (ps : List (Option V)) → find tag_cmp q (entries_of ps) ≡ value_in ps q.0
  found_at q ps = found q 0 q.0 ps (omega arith)

  pub put_at : (q : Tag) (v : V) (ps : List (Option V)) → q.0 < length ps → entries_of (slice_set ps q.0 (Some v)) ≡ put tag_cmp q v (entries_of ps)
  put_at q v ps h = sym (put_set q v 0 q.0 ps (omega arith) h)

  pub without_at : (q : Tag) (ps : List (Option V)) → entries_of (slice_set ps q.0 None) ≡ without tag_cmp q (entries_of ps)
  without_at q ps = sym (without_set q 0 q.0 ps (omega arith))

  pub with_at : (q : Tag) (p : Option V) (ps : List (Option V)) → (is_some p ≡ true → q.0 < length ps) → entries_of (slice_set ps q.0 p) ≡ with_value tag_cmp q p (entries_of ps)
  with_at q None ps h = without_at q ps
  with_at q (Some v) ps h = put_at q v ps (h refl)

  pub changed_in : (q : Tag) (f : V → V) (ps : List (Option V)) → entries_of (slice_set ps q.0 (option_map f (value_in ps q.0))) ≡ changed_at tag_cmp q f (entries_of ps)
  changed_in q f ps = sym (changed_set q f 0 q.0 ps (omega arith))

  -- the next one of several tags taken out
  pub without_next : (qs : List Tag) (i : ℕ) (d : Tag) (ps rs : List (Option V)) → i < length qs → rs ≡ slice_set ps (get_or qs i d).0 None → without_each tag_cmp (drop (i + 1) qs) (entries_of rs) ≡ without_each tag_cmp (drop i qs) (entries_of ps)
  without_next qs i d ps rs h is =
      ap (λ m. without_each tag_cmp (drop m qs) (entries_of rs)) (add-one i)
      ∙ ap (without_each tag_cmp (drop (suc i) qs)) (ap entries_of is ∙ without_at (get_or qs i d) ps)
      ∙ ap (λ ts. without_each tag_cmp ts (entries_of ps)) (sym (drop-cons qs i d h))

  pub above_at : (q : Tag) (ps : List (Option V)) → above tag_cmp q (entries_of ps) ≡ entries_from (q.0 + 1) (drop (q.0 + 1) ps)
  above_at q ps = above_drop q 0 q.0 ps (omega arith) ∙ ap (λ m. entries_from (q.0 + 1) (drop m ps)) (sym (add-one q.0))

  pub above_none : (q : Tag) (ps : List (Option V)) → length ps ≤ q.0 → above tag_cmp q (entries_of ps) ≡ []
  above_none q ps h = above_past q 0 ps (omega arith)

  -- a value is in a place
  pub within : (ps : List (Option V)) (i : ℕ) → is_some (value_in ps i) ≡ true → i < length ps
  within [] i some = cc
  within (p ∷ ps) zero some = omega arith
  within (p ∷ ps) (suc i) some = let rest = within ps i some in omega (arith, rest)

  -- ---- what stays so of a table

  pub table_set : (i : ℕ) (p : Option V) (ps qs : List (Option V)) (count left : ℕ) → IsTable ps count → qs ≡ slice_set ps i p → (is_some p ≡ true → i < length ps) → left + one (value_in ps i) ≡ count + one p → IsTable qs left
  table_set i p ps qs count left table is h counts =
      let size = size_set 0 i p ps h in
      let same = ap (λ xs. length (entries_of xs)) is in
      let many = ap length is ∙ length-set ps i p in
      record { counted = omega (arith, size, same, counts, table.counted); few = omega (arith, many, table.few) }

  mapped : (f : V → V) (o : Option V) → is_some (option_map f o) ≡ is_some o
  mapped f None = refl
  mapped f (Some v) = refl

  pub table_changed : (i : ℕ) (f : V → V) (ps qs : List (Option V)) (count : ℕ) → IsTable ps count → qs ≡ slice_set ps i (option_map f (value_in ps i)) → IsTable qs count
  table_changed i f ps qs count table is =
      let as_many = mapped f (value_in ps i) in
      table_set i (option_map f (value_in ps i)) ps qs count count table is (λ some. within ps i (sym as_many ∙ some)) (ap (λ b. count + cond b 1 0) (sym as_many))

  pub table_all : (f : V → V) (ps qs : List (Option V)) (count : ℕ) → IsTable ps count → qs ≡ map (option_map f) ps → IsTable qs count
  table_all f ps qs count table is =
      let same = ap (λ xs. length (entries_of xs)) is ∙ ap length (sym (changed_each f 0 ps)) ∙ length-map (entries_of ps) (λ (e : Tag × V). (e.0, f e.1)) in
      let many = ap length is ∙ length-map ps (option_map f) in
      record { counted = omega (arith, same, table.counted); few = omega (arith, many, table.few) }

  -- a value that is there was counted
  pub counted_one : (i : ℕ) (ps : List (Option V)) (count : ℕ) → IsTable ps count → is_some (value_in ps i) ≡ true → 1 ≤ count
  counted_one i ps count table some =
      let size = size_set 0 i None ps (λ none. cc) in
      let here = ap {B = ℕ} (λ b. cond b 1 0) some in
      omega (arith, size, here, table.counted)

  few_entries : (n : ℕ) (ps : List (Option V)) → length (entries_from n ps) ≤ length ps
  few_entries n [] = omega arith
  few_entries n (None ∷ ps) = let rest = few_entries (n + 1) ps in omega (arith, rest)
  few_entries n (Some v ∷ ps) = let rest = few_entries (n + 1) ps in omega (arith, rest)

  pub counted_few : (ps : List (Option V)) (count : ℕ) → IsTable ps count → count < 2 ^ 32
  counted_few ps count table = let few = few_entries 0 ps in omega (arith, few, table.counted, table.few)

  -- a new tag has room, and one that is there has a place
  pub has_place : (q : Tag) (ps : List (Option V)) (s : Held V) → ◌≡◌ {A = Held V} (record { items = entries_of ps; room = length ps }) s → (find tag_cmp q s.items ≡ None → q.0 < s.room) → q.0 < length ps
  has_place q ps s view_is room = by (value_in ps q.0) refl
    where
      by : (o : Option V) → value_in ps q.0 ≡ o → q.0 < length ps
      by None is = subst (λ (s : Held V). find tag_cmp q s.items ≡ None → q.0 < s.room) (sym view_is) room (found_at q ps ∙ is)
      by (Some v) is = within ps q.0 (ap is_some is)

  pub table_put : (i : ℕ) (v : V) (ps qs : List (Option V)) (count left : ℕ) → IsTable ps count → qs ≡ slice_set ps i (Some v) → i < length ps → left + one (value_in ps i) ≡ count + 1 → IsTable qs left
  table_put i v ps qs count left table is h counts = table_set i (Some v) ps qs count left table is (λ some. h) counts

  pub table_without : (i : ℕ) (ps qs : List (Option V)) (count left : ℕ) → IsTable ps count → qs ≡ slice_set ps i None → left + one (value_in ps i) ≡ count → IsTable qs left
  table_without i ps qs count left table is counts = table_set i None ps qs count left table is (λ none. cc) (omega (arith, counts))

  -- ---- values that are given

  pub given_at : (q : Tag) (f : V → V) (v : V) (ps : List (Option V)) → q.0 < length ps → entries_of (slice_set ps q.0 (Some (unwrap_or (option_map f (value_in ps q.0)) v))) ≡ changed_or_put tag_cmp q f v (entries_of ps)
  given_at q f v ps h =
      put_at q (unwrap_or (option_map f (value_in ps q.0)) v) ps h
      ∙ ap (λ o. put tag_cmp q (unwrap_or (option_map f o) v) (entries_of ps)) (sym (found_at q ps))

  pub table_given : (i : ℕ) (v : V) (ps qs : List (Option V)) (count left : ℕ) (b : Bool) → IsTable ps count → qs ≡ slice_set ps i (Some v) → i < length ps → b ≡ not (is_some (value_in ps i)) → left ≡ count + cond b 1 0 → IsTable qs left
  table_given i v ps qs count left b table is h given counts =
      let size = one_or_given (value_in ps i) b given in
      table_put i v ps qs count left table is h (omega (arith, size, counts))
    where
      one_or_given : (o : Option V) (b : Bool) → b ≡ not (is_some o) → cond b 1 0 + one o ≡ 1
      one_or_given None b e = ap {B = ℕ} (λ b. cond b 1 0 + 0) e
      one_or_given (Some v) b e = ap {B = ℕ} (λ b. cond b 1 0 + 1) e

  -- ---- values that lapse

  module _ (f : V → V) (lapsed : V → Bool) where
    pub lasts_where : (o : Option V) → is_some (lasting lapsed (option_map f o)) ≡ true → is_some o ≡ true
    lasts_where None some = some
    lasts_where (Some v) some = refl

    pub lapses_where : (o : Option V) → is_some (lapsing lapsed (option_map f o)) ≡ true → is_some o ≡ true
    lapses_where None some = some
    lapses_where (Some v) some = refl

    pub one_of_both : (o : Option V) → one o ≡ one (lasting lapsed (option_map f o)) + one (lapsing lapsed (option_map f o))
    one_of_both None = refl
    one_of_both (Some v) = elim (lapsed (f v)) as (λ b. 1 ≡ one (cond b None (Some (f v))) + one (cond b (Some (f v)) None)) [ true ↦ refl | false ↦ refl ]

    pub table_lapsed : (i : ℕ) (ps qs : List (Option V)) (count left : ℕ) (b : Bool) → IsTable ps count → qs ≡ slice_set ps i (lasting lapsed (option_map f (value_in ps i))) → b ≡ is_some (lapsing lapsed (option_map f (value_in ps i))) → left + cond b 1 0 ≡ count → IsTable qs left
    table_lapsed i ps qs count left b table is lapse counts =
        let both = one_of_both (value_in ps i) in
        let gone = ap {B = ℕ} (λ b. cond b 1 0) lapse in
        table_set i (lasting lapsed (option_map f (value_in ps i))) ps qs count left table is (λ some. within ps i (lasts_where (value_in ps i) some)) (omega (arith, both, gone, counts))

-- ---- a walk over the places

module _ {A : Type 0} (f : A → A) where
  abbrev pub changed_after : ℕ → List (Option A) → List (Option A)
  changed_after n [] = []
  changed_after zero (p ∷ ps) = option_map f p ∷ changed_after zero ps
  changed_after (suc n) (p ∷ ps) = p ∷ changed_after n ps

  pub after_none : (ps : List (Option A)) → changed_after 0 ps ≡ map (option_map f) ps
  after_none [] = refl
  after_none (p ∷ ps) = ap (λ xs. option_map f p ∷ xs) (after_none ps)

  pub after_all : (n : ℕ) (ps : List (Option A)) → length ps ≤ n → changed_after n ps ≡ ps
  after_all n [] h = refl
  after_all zero (p ∷ ps) h = absurd (omega arith)
  after_all (suc n) (p ∷ ps) h = ap (λ xs. p ∷ xs) (after_all n ps (omega arith))

  after_suc : (n : ℕ) (ps : List (Option A)) → changed_after (suc n) (slice_set ps n (option_map f (value_in ps n))) ≡ changed_after n ps
  after_suc n [] = refl
  after_suc zero (p ∷ ps) = refl
  after_suc (suc n) (p ∷ ps) = ap (λ xs. p ∷ xs) (after_suc n ps)

  pub after_next : (n : ℕ) (ps qs : List (Option A)) → qs ≡ slice_set ps n (option_map f (value_in ps n)) → changed_after (n + 1) qs ≡ changed_after n ps
  after_next n ps qs is = ap (changed_after (n + 1)) is ∙ ap (λ m. changed_after m (slice_set ps n (option_map f (value_in ps n)))) (add-one n) ∙ after_suc n ps

-- an empty place at the end
pub one_empty_more : {V : Type 0} (n : ℕ) (ps : List (Option V)) → entries_from n (ps ++ None ∷ []) ≡ entries_from n ps
one_empty_more n [] = refl
one_empty_more n (None ∷ ps) = one_empty_more (n + 1) ps
one_empty_more n (Some v ∷ ps) = ap (λ es. (tag_of n, v) ∷ es) (one_empty_more (n + 1) ps)

-- a slice up to the end
pub whole_rest : {A : Type 0} (n : ℕ) (xs : List A) → take (length xs - n) (drop n xs) ≡ drop n xs
whole_rest n xs = ap (λ m. take m (drop n xs)) (sym (length-drop n xs)) ∙ take-length (drop n xs)
