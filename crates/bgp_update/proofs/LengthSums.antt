-- Lengths of what is written one after another.
use Rattle.std.proofs.Common.{◌≡◌, ℕ, ◌+◌, ◌*◌, ◌<◌, ◌≤◌, Bool, true, false, List, [], ◌∷◌, ◌++◌, length, inl, inr, min, flat_map, filter, cond, refl, sym, ap, ◌∙◌, append_assoc, leb, ltb, arith}
use Rattle.std.specs.Prelude.{nat_le, nat_lt, ◌&&◌}
use Rattle.std.proofs.lemmas.Bool.{cases_lt, cond_both, false_from_ne_true, le-leb, leb-true, lt-ltb, ltb-true}
use Rattle.std.proofs.lemmas.List.{length-append}
use Rattle.net_types.specs.Octets.{address_octets, word}
use Rattle.net_types.specs.Updates.{aggregator_octets, announcement, atomic_octets, attribute, attrs_octets, communities_octets, long, marker, med_octets, prefix_octets, segment_octets, short, unknown_octets, update_message, wide_octets, wide_segment_octets}
use Rattle.net_types.specs.Paths.{has_wide}
use Rattle.net_types.specs.declared.prefix.Prefix.{Prefix}
use Rattle.net_types.specs.declared.route.Attrs.{Attrs}
use Rattle.net_types.specs.declared.route.Segment.{Segment}
use Rattle.net_types.specs.declared.route.Unknown.{Unknown}

pub shorts_len : (ns : List ℕ) → length (flat_map short ns) ≡ 2 * length ns
shorts_len [] = refl
shorts_len (n ∷ ns) = let later : length (flat_map short ns) ≡ 2 * length ns = shorts_len ns in omega (arith, later, length-append (short n) (flat_map short ns))

pub longs_len : (ns : List ℕ) → length (flat_map long ns) ≡ 4 * length ns
longs_len [] = refl
longs_len (n ∷ ns) = let later : length (flat_map long ns) ≡ 4 * length ns = longs_len ns in omega (arith, later, length-append (long n) (flat_map long ns))

-- one of three tests takes each
split_case : {X : Type 0} (f : X → List ℕ) (x : X) (xs ls ms hs : List X) (a b c : Bool) → cond a 1 0 + cond b 1 0 + cond c 1 0 ≡ 1
    → length (flat_map f ls) + length (flat_map f ms) + length (flat_map f hs) ≡ length (flat_map f xs)
    → length (flat_map f (cond a (x ∷ ls) ls)) + length (flat_map f (cond b (x ∷ ms) ms)) + length (flat_map f (cond c (x ∷ hs) hs)) ≡ length (flat_map f (x ∷ xs))
split_case f x xs ls ms hs true true true one h = absurd (omega (arith, one))
split_case f x xs ls ms hs true true false one h = absurd (omega (arith, one))
split_case f x xs ls ms hs true false true one h = absurd (omega (arith, one))
split_case f x xs ls ms hs true false false one h = omega (arith, h, length-append (f x) (flat_map f xs), length-append (f x) (flat_map f ls))
split_case f x xs ls ms hs false true true one h = absurd (omega (arith, one))
split_case f x xs ls ms hs false true false one h = omega (arith, h, length-append (f x) (flat_map f xs), length-append (f x) (flat_map f ms))
split_case f x xs ls ms hs false false true one h = omega (arith, h, length-append (f x) (flat_map f xs), length-append (f x) (flat_map f hs))
split_case f x xs ls ms hs false false false one h = absurd (omega (arith, one))

-- the types below 1, from 1 to 16, and from 17 on
abbrev pub is_lowest : Unknown → Bool
is_lowest u = nat_lt u.kind 1

abbrev pub is_middle : Unknown → Bool
is_middle u = nat_le 1 u.kind && nat_lt u.kind 17

abbrev pub is_highest : Unknown → Bool
is_highest u = nat_le 17 u.kind

one_band : (n : ℕ) → cond (nat_lt n 1) 1 0 + cond (nat_le 1 n && nat_lt n 17) 1 0 + cond (nat_le 17 n) 1 0 ≡ 1
one_band n = elim (cases_lt n 1) [
  | inl less ↦ rw (lt-ltb n 1 less, not_le 1 n less, not_le 17 n (omega (arith, less))) refl
  | inr some ↦ elim (cases_lt n 17) [
    | inl less ↦ rw (not_lt n 1 some, le-leb 1 n some, lt-ltb n 17 less, not_le 17 n less) refl
    | inr more ↦ rw (not_lt n 1 some, le-leb 1 n some, not_lt n 17 more, le-leb 17 n more) refl
  ]
]
  where
    not_le : (m k : ℕ) → k < m → leb m k ≡ false
    not_le m k less = false_from_ne_true (leb m k) (λ t. let le : m ≤ k = leb-true m k t in omega (arith, less, le))

    not_lt : (m k : ℕ) → k ≤ m → ltb m k ≡ false
    not_lt m k le = false_from_ne_true (ltb m k) (λ t. let less : m < k = ltb-true m k t in omega (arith, less, le))

pub unknown_split : (us : List Unknown) → length (unknown_octets (filter is_lowest us)) + length (unknown_octets (filter is_middle us)) + length (unknown_octets (filter is_highest us)) ≡ length (unknown_octets us)
unknown_split [] = refl
unknown_split (u ∷ us) =
    split_case (λ (v : Unknown). attribute 224 v.kind v.value) u us (filter is_lowest us) (filter is_middle us) (filter is_highest us) (nat_lt u.kind 1) (nat_le 1 u.kind && nat_lt u.kind 17) (nat_le 17 u.kind)
    (one_band u.kind) (unknown_split us)

sum_eleven : (a b c d e f g h i j k : List ℕ) → length (a ++ b ++ c ++ d ++ e ++ f ++ g ++ h ++ i ++ j ++ k)
    ≡ length a + length b + length c + length d + length e + length f + length g + length h + length i + length j + length k
sum_eleven a b c d e f g h i j k = simp length-append refl

pub attribute_length : (flags kind : ℕ) (value : List ℕ) → length (attribute flags kind value) ≡ cond (leb (length value) 255) (3 + length value) (4 + length value)
attribute_length flags kind value =
    cond_both (leb (length value) 255) (flags ∷ kind ∷ length value ∷ value) ((flags + 16) ∷ kind ∷ word (length value) ++ value)
    (λ (s : List ℕ). length s ≡ cond (leb (length value) 255) (3 + length value) (4 + length value))
    (λ t. rw t (omega arith))
    (λ t. rw t (omega arith))

-- the length of all attributes, from what is told of the parts
pub attrs_length : (a : Attrs) → length (attrs_octets a) ≡ length (unknown_octets a.unknown) + length (attribute 64 2 (flat_map segment_octets a.path)) + 11
    + length (med_octets a.med) + length (atomic_octets a.atomic) + length (aggregator_octets a.aggregator) + length (communities_octets a.communities_partial a.communities) + length (wide_octets a.path)
attrs_length a =
    let sum = sum_eleven (unknown_octets (filter is_lowest a.unknown)) (attribute 64 1 (a.origin ∷ [])) (attribute 64 2 (flat_map segment_octets a.path))
    (attribute 64 3 (address_octets a.next_hop)) (med_octets a.med) (atomic_octets a.atomic) (aggregator_octets a.aggregator) (communities_octets a.communities_partial a.communities)
    (unknown_octets (filter is_middle a.unknown)) (wide_octets a.path) (unknown_octets (filter is_highest a.unknown)) in
    omega (arith, sum, unknown_split a.unknown)

-- ---- what is chosen

chosen_case : {X : Type 0} (x : X) (xs : List X) (f : X → List ℕ) (test : X → Bool) (b : Bool) → flat_map (λ y. cond (test y) (f y) []) xs ≡ flat_map f (filter test xs)
    → cond b (f x) [] ++ flat_map (λ y. cond (test y) (f y) []) xs ≡ flat_map f (cond b (x ∷ filter test xs) (filter test xs))
chosen_case x xs f test true h = ap (λ (s : List ℕ). f x ++ s) h
chosen_case x xs f test false h = h

-- what is written of those that pass a test
pub chosen : {X : Type 0} (f : X → List ℕ) (test : X → Bool) (xs : List X) → flat_map (λ x. cond (test x) (f x) []) xs ≡ flat_map f (filter test xs)
chosen f test [] = refl
chosen f test (x ∷ xs) = chosen_case x xs f test (test x) (chosen f test xs)

pub in_order : (out l o p n m a g c k w r : List ℕ) → out ++ l ++ (o ++ (p ++ n)) ++ (m ++ (a ++ (g ++ c))) ++ k ++ w ++ r ≡ out ++ (l ++ o ++ p ++ n ++ m ++ a ++ g ++ c ++ k ++ w ++ r)
in_order out l o p n m a g c k w r = simp append_assoc refl

-- the octets so far at each step of writing attributes
pub attrs_written : (a : Attrs) (out o1 o2 o3 o4 o5 o6 : List ℕ)
    → o1 ≡ out ++ flat_map (λ (u : Unknown). cond (nat_lt u.kind 1) (attribute 224 u.kind u.value) []) a.unknown
    → o2 ≡ o1 ++ (attribute 64 1 (a.origin ∷ []) ++ (attribute 64 2 (flat_map segment_octets a.path) ++ attribute 64 3 (address_octets a.next_hop)))
    → o3 ≡ o2 ++ (med_octets a.med ++ (atomic_octets a.atomic ++ (aggregator_octets a.aggregator ++ communities_octets a.communities_partial a.communities)))
    → o4 ≡ o3 ++ flat_map (λ (u : Unknown). cond (nat_le 1 u.kind && nat_lt u.kind 17) (attribute 224 u.kind u.value) []) a.unknown
    → o5 ≡ o4 ++ wide_octets a.path
    → o6 ≡ o5 ++ flat_map (λ (u : Unknown). cond (nat_le 17 u.kind) (attribute 224 u.kind u.value) []) a.unknown
    → o6 ≡ out ++ attrs_octets a
attrs_written a out o1 o2 o3 o4 o5 o6 e1 e2 e3 e4 e5 e6 =
    let l = chosen (λ (u : Unknown). attribute 224 u.kind u.value) is_lowest a.unknown in
    let k = chosen (λ (u : Unknown). attribute 224 u.kind u.value) is_middle a.unknown in
    let r = chosen (λ (u : Unknown). attribute 224 u.kind u.value) is_highest a.unknown in
    rw (e6, e5, e4, e3, e2, e1, l, k, r) (in_order out _ _ _ _ _ _ _ _ _ _ _)

-- ---- lengths told up to 65535

pub attribute_capped : (m k : ℕ) → m ≡ min 65535 k → min 65535 (cond (leb m 255) (3 + m) (4 + m)) ≡ min 65535 (cond (leb k 255) (3 + k) (4 + k))
attribute_capped m k e = elim (cases_lt 255 k) [
  | inl more ↦
      let high : leb m 255 ≡ false = false_from_ne_true (leb m 255) (λ t. let le : m ≤ 255 = leb-true m 255 t in omega (arith, e, more, le)) in
      let higher : leb k 255 ≡ false = false_from_ne_true (leb k 255) (λ t. let le : k ≤ 255 = leb-true k 255 t in omega (arith, more, le)) in
      rw (high, higher) (omega (arith, e))
  | inr le ↦ let same : m ≡ k = omega (arith, e, le) in ap (λ (n : ℕ). min 65535 (cond (leb n 255) (3 + n) (4 + n))) same
]

pub communities_length : (partial : Bool) (cs : List ℕ) → 1 ≤ length cs → length (communities_octets partial cs) ≡ cond (leb (4 * length cs) 255) (3 + 4 * length cs) (4 + 4 * length cs)
communities_length partial [] some = absurd (omega arith)
communities_length partial (c ∷ cs) some =
    attribute_length _ 8 (flat_map long (c ∷ cs)) ∙ ap (λ (n : ℕ). cond (leb n 255) (3 + n) (4 + n)) (longs_len (c ∷ cs))

pub attrs_sum : (total three one two u p s c w U P C W : ℕ) → total ≡ min 65535 (three + w) → three ≡ min 65535 (one + two) → one ≡ min 65535 (u + p) → two ≡ min 65535 (s + c)
    → u ≡ min 65535 U → p ≡ min 65535 P → c ≡ min 65535 C → w ≡ min 65535 W → total ≡ min 65535 (U + P + s + C + W)
attrs_sum total three one two u p s c w U P C W e0 e1 e2 e3 e4 e5 e6 e7 = omega (arith, e0, e1, e2, e3, e4, e5, e6, e7)

-- AS4_PATH where it is written
pub wide_capped : (path : List Segment) (m : ℕ) → m ≡ min 65535 (length (flat_map wide_segment_octets path)) → has_wide path ≡ true
    → min 65535 (cond (leb m 255) (3 + m) (4 + m)) ≡ min 65535 (length (wide_octets path))
wide_capped path m e wide =
    attribute_capped m (length (flat_map wide_segment_octets path)) e
    ∙ ap (λ (n : ℕ). min 65535 n) (sym (attribute_length 192 17 (flat_map wide_segment_octets path)))
    ∙ ap (λ (b : Bool). min 65535 (length (cond b (attribute 192 17 (flat_map wide_segment_octets path)) []))) (sym wide)

-- ---- whole messages

seven : (m t k w l a n : List ℕ) → length (m ++ t ++ k ++ w ++ l ++ a ++ n) ≡ length m + length t + length k + length w + length l + length a + length n
seven m t k w l a n = simp length-append refl

pub message_length : (w a n : List ℕ) → length (update_message w a n) ≡ 23 + length w + length a + length n
message_length w a n = seven marker (word (23 + length w + length a + length n)) (2 ∷ word (length w)) w (word (length a)) a n ∙ omega arith

-- a message that is too long, from lengths told up to 65535
pub exceeds : (p : Prefix) (a : Attrs) (front : ℕ) → front ≡ min 65535 (23 + min 65535 (length (attrs_octets a)))
    → nat_lt 4096 (min 65535 (front + length (prefix_octets p))) ≡ nat_lt 4096 (length (announcement p a a.next_hop))
exceeds p a front e =
    let len : length (announcement p a a.next_hop) ≡ 23 + 0 + length (attrs_octets a) + length (prefix_octets p) = message_length [] (attrs_octets a) (prefix_octets p) in
    same (min 65535 (front + length (prefix_octets p))) (length (announcement p a a.next_hop)) (λ less. omega (arith, e, len, less)) (λ less. omega (arith, e, len, less))
  where
    same : (m n : ℕ) → (4096 < m → 4096 < n) → (4096 < n → 4096 < m) → nat_lt 4096 m ≡ nat_lt 4096 n
    same m n onto back = elim (cases_lt 4096 m) [
      | inl less ↦ lt-ltb 4096 m less ∙ sym (lt-ltb 4096 n (onto less))
      | inr le ↦
          let one : ltb 4096 m ≡ false = false_from_ne_true (ltb 4096 m) (λ t. let less : 4096 < m = ltb-true 4096 m t in omega (arith, less, le)) in
          let two : ltb 4096 n ≡ false = false_from_ne_true (ltb 4096 n) (λ t. let less : 4096 < m = back (ltb-true 4096 n t) in omega (arith, less, le)) in
          one ∙ sym two
    ]
