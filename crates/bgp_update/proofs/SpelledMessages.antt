-- The attributes and prefixes of a sound update, as they are written, spell it.
use Rattle.std.proofs.Common.{◌≡◌, ℕ, zero, suc, ◌+◌, ◌-◌, ◌/◌, ◌%◌, ◌^◌, ◌<◌, ◌≤◌, Bool, true, false, not, cond, List, [], ◌∷◌, ◌++◌, length, take, map, filter, flat_map, refl, sym, ap, subst, ◌∙◌, append_assoc, arith, inl, inr}
use Rattle.std.specs.Prelude.{Option, Some, None, ◌&&◌, ◌==◌, IsTrue, nat_le, nat_lt}
use Rattle.std.specs.List.{fold}
use Rattle.std.proofs.lemmas.Bool.{and_from, and_parts, cases_Bool, cases_eq, cases_lt, le-leb, leb-true, ltb-true, lt-ltb, ne_eqb}
use Rattle.std.proofs.lemmas.List.{append-nil, length-take}
use Rattle.grammar.specs.Formats.{ItemsSpell}
use Rattle.net_types.proofs.PrefixLemmas.{same_bits_refl}
use Rattle.net_types.proofs.SetLemmas.{Member-append_cases, Member-append_left, Member-append_right}
use Rattle.net_types.specs.AttributeTypes.{type_of}
use Rattle.net_types.specs.Bits.{same_bits}
use Rattle.net_types.specs.Octets.{address_octets}
use Rattle.net_types.specs.Paths.{has_wide}
use Rattle.net_types.specs.Sets.{Each, IsRising, Member, SameMembers}
use Rattle.net_types.specs.SoundUpdates.{AreSoundAttrs, IsSoundAggregator, IsSoundSegment}
use Rattle.net_types.specs.UpdateFormat.{no_types, number_of, padded, prefix, with_type}
use Rattle.net_types.specs.UpdateSpelling.{AreSaid, is_type_before}
use Rattle.net_types.specs.UpdateValue.{Said, nothing_said, said, with_attribute}
use Rattle.net_types.specs.Updates as written
use Rattle.net_types.specs.Updates.{aggregator_octets, atomic_octets, attrs_octets, communities_octets, med_octets, optional_attrs_octets, prefix_octets, prefixes_octets, unknown_octets, wide_octets, wide_segment_octets}
use Rattle.net_types.specs.declared.address.Ip.{Ip}
use Rattle.net_types.specs.declared.attribute.Attribute.{Attribute}
use Rattle.net_types.specs.declared.attribute.Attribute.TheVariants as attributes
use Rattle.net_types.specs.declared.prefix.Prefix.{Prefix}
use Rattle.net_types.specs.declared.route.Aggregator.{Aggregator}
use Rattle.net_types.specs.declared.route.Attrs.{Attrs}
use Rattle.net_types.specs.declared.route.Segment.{Segment}
use Rattle.net_types.specs.declared.route.Unknown.{Unknown}
use Rattle.bgp_update.proofs.LengthSums.{is_highest, is_lowest, is_middle}
use Rattle.net_types.proofs.BitLemmas.{fewer_zeros}
use Rattle.net_types.proofs.MemberLemmas.{each_append, of_each}
use Rattle.bgp_update.proofs.SpelledAttributes.{IsTaken, octets_of, path_told, then_spells, told_segment}
use Rattle.bgp_update.proofs.ToldPaths.{whole_back, wide_told}
use Rattle.bgp_update.specs.Answers.{AreNew}
use Rattle.bgp_update.specs.RoundTrip.{FitAttrs, FitsAggregator, FitsMed}
use Rattle.net_types.proofs.RisingLemmas.{Member-filter}

-- ---- prefixes

-- so many octets hold the address, where the bits behind them are zero
held : (a len k : ℕ) → a < 4294967296 → len ≤ 32 → a % 2 ^ (32 - len) ≡ 0 → k ≡ (len + 7) / 8 → padded (take k (address_octets (record { 0 = a }))) ≡ a
held a len zero less short zeros e = let none : a % 2 ^ 32 ≡ 0 = fewer_zeros a 32 (32 - len) (omega (arith, e)) zeros in let is : a ≡ 0 = omega (arith, none, less) in sym is
held a len (suc zero) less short zeros e = let none : a % 2 ^ 24 ≡ 0 = fewer_zeros a 24 (32 - len) (omega (arith, e)) zeros in omega (arith, none, less)
held a len (suc (suc zero)) less short zeros e = let none : a % 2 ^ 16 ≡ 0 = fewer_zeros a 16 (32 - len) (omega (arith, e)) zeros in omega (arith, none, less)
held a len (suc (suc (suc zero))) less short zeros e = let none : a % 2 ^ 8 ≡ 0 = fewer_zeros a 8 (32 - len) (omega (arith, e)) zeros in omega (arith, none, less)
held a len (suc (suc (suc (suc zero)))) less short zeros e = omega (arith, less)
held a len (suc (suc (suc (suc (suc k))))) less short zeros e = absurd (omega (arith, e, short))

prefix_spells : (p : Prefix) → prefix.Spells (prefix_octets p) p
prefix_spells p =
    let k : ℕ = (p.len + 7) / 8 in
    let bits : List ℕ = take ((p.len + 7) / 8) (address_octets p.address) in
    let short : p.len ≤ 32 = p.short in
    let len : length (take ((p.len + 7) / 8) (address_octets p.address)) ≡ (p.len + 7) / 8 = omega (arith, short, length-take ((p.len + 7) / 8) (address_octets p.address)) in
    let is : padded (take ((p.len + 7) / 8) (address_octets p.address)) ≡ p.address.0 = held p.address.0 p.len ((p.len + 7) / 8) p.in_range p.short p.host_bits_zero refl in
    let agree : IsTrue (same_bits p.len p.address.0 (padded (take ((p.len + 7) / 8) (address_octets p.address)))) = subst (λ (n : ℕ). IsTrue (same_bits p.len p.address.0 n)) (sym is) (same_bits_refl p.len p.address.0) in
    subst (λ (t : List ℕ). prefix.Spells (p.len ∷ t) p) (append-nil (take ((p.len + 7) / 8) (address_octets p.address)))
    (then_spells _ _ (p.len ∷ []) (take ((p.len + 7) / 8) (address_octets p.address) ++ []) p.len p refl
    (then_spells _ _ (take ((p.len + 7) / 8) (address_octets p.address)) [] (take ((p.len + 7) / 8) (address_octets p.address)) p (len, refl) (refl, refl, agree)))

pub prefixes_spell : (ps : List Prefix) → ItemsSpell prefix (prefixes_octets ps) ps
prefixes_spell [] = refl
prefixes_spell (p ∷ ps) = (prefix_octets p, prefixes_octets ps, refl, prefix_spells p, prefixes_spell ps)

-- ---- the attributes in their order

abbrev unknowns : List Unknown → List Attribute
unknowns us = map (λ u. attributes.Unknown u) us

abbrev med_of : Option ℕ → List Attribute
med_of None = []
med_of (Some n) = attributes.MultiExitDisc n ∷ []

abbrev atomic_of : Bool → List Attribute
atomic_of true = attributes.AtomicAggregate ∷ []
atomic_of false = []

abbrev aggregator_of : Option Aggregator → List Attribute
aggregator_of None = []
aggregator_of (Some a) = attributes.Aggregator a ∷ []

abbrev communities_of : Bool → List ℕ → List Attribute
communities_of partial [] = []
communities_of partial (c ∷ cs) = attributes.Communities partial (c ∷ cs) ∷ []

abbrev lows : Attrs → List Unknown
lows a = filter (λ (u : Unknown). nat_lt u.kind 1) a.unknown

abbrev middles : Attrs → List Unknown
middles a = filter (λ (u : Unknown). nat_le 1 u.kind && nat_lt u.kind 17) a.unknown

abbrev highs : Attrs → List Unknown
highs a = filter (λ (u : Unknown). nat_le 17 u.kind) a.unknown

abbrev wide_of : List Segment → List Attribute
wide_of path = cond (has_wide path) (attributes.As4Path path ∷ []) []

-- what stands behind the known ones up to 8
abbrev rear : Attrs → List Attribute
rear a = unknowns (middles a) ++ (wide_of a.path ++ unknowns (highs a))

abbrev pub attributes_of : Attrs → List Attribute
attributes_of a = unknowns (lows a) ++ (attributes.Origin a.origin ∷ attributes.AsPath (map told_segment a.path) ∷ attributes.NextHop a.next_hop ∷
    (med_of a.med ++ (atomic_of a.atomic ++ (aggregator_of a.aggregator ++ (communities_of a.communities_partial a.communities ++ rear a)))))

abbrev pub optional_of : Option Attrs → List Attribute
optional_of None = []
optional_of (Some a) = attributes_of a

-- ---- their octets

flat_append : (xs ys : List Attribute) → flat_map octets_of (xs ++ ys) ≡ flat_map octets_of xs ++ flat_map octets_of ys
flat_append [] ys = refl
flat_append (x ∷ xs) ys = ap (λ (s : List ℕ). octets_of x ++ s) (flat_append xs ys) ∙ sym (append_assoc (octets_of x) (flat_map octets_of xs) (flat_map octets_of ys))

unknowns_written : (us : List Unknown) → flat_map octets_of (unknowns us) ≡ unknown_octets us
unknowns_written [] = refl
unknowns_written (u ∷ us) = ap (λ (s : List ℕ). written.attribute 224 u.kind u.value ++ s) (unknowns_written us)

med_written : (m : Option ℕ) → flat_map octets_of (med_of m) ≡ med_octets m
med_written None = refl
med_written (Some n) = append-nil _

atomic_written : (b : Bool) → flat_map octets_of (atomic_of b) ≡ atomic_octets b
atomic_written true = refl
atomic_written false = refl

aggregator_written : (g : Option Aggregator) → flat_map octets_of (aggregator_of g) ≡ aggregator_octets g
aggregator_written None = refl
aggregator_written (Some g) = append-nil _

communities_written : (partial : Bool) (cs : List ℕ) → flat_map octets_of (communities_of partial cs) ≡ communities_octets partial cs
communities_written partial [] = refl
communities_written partial (c ∷ cs) = append-nil _

wide_written : (path : List Segment) → flat_map octets_of (wide_of path) ≡ wide_octets path
wide_written path = by (has_wide path)
  where
    by : (b : Bool) → flat_map octets_of (cond b (attributes.As4Path path ∷ []) []) ≡ cond b (written.attribute 192 17 (flat_map wide_segment_octets path)) []
    by true = append-nil _
    by false = refl

rear_written : (a : Attrs) → flat_map octets_of (rear a) ≡ unknown_octets (middles a) ++ (wide_octets a.path ++ unknown_octets (highs a))
rear_written a =
    flat_append (unknowns (middles a)) (wide_of a.path ++ unknowns (highs a))
    ∙ ap (λ (t : List ℕ). flat_map octets_of (unknowns (middles a)) ++ t) (flat_append (wide_of a.path) (unknowns (highs a)))
    ∙ rw (unknowns_written (middles a), unknowns_written (highs a), wide_written a.path) refl

eleven : (l o p n m a g c k w r : List ℕ) → l ++ (o ++ (p ++ (n ++ (m ++ (a ++ (g ++ (c ++ (k ++ (w ++ r))))))))) ≡ l ++ o ++ p ++ n ++ m ++ a ++ g ++ c ++ k ++ w ++ r
eleven l o p n m a g c k w r = simp append_assoc refl

attrs_are_written : (a : Attrs) → flat_map octets_of (attributes_of a) ≡ attrs_octets a
attrs_are_written a =
    rw (
      flat_append (unknowns (lows a)) (attributes.Origin a.origin ∷ attributes.AsPath (map told_segment a.path) ∷ attributes.NextHop a.next_hop ∷ (med_of a.med ++ (atomic_of a.atomic ++ (aggregator_of a.aggregator ++ (communities_of a.communities_partial a.communities ++ rear a))))),
      flat_append (med_of a.med) (atomic_of a.atomic ++ (aggregator_of a.aggregator ++ (communities_of a.communities_partial a.communities ++ rear a))),
      flat_append (atomic_of a.atomic) (aggregator_of a.aggregator ++ (communities_of a.communities_partial a.communities ++ rear a)),
      flat_append (aggregator_of a.aggregator) (communities_of a.communities_partial a.communities ++ rear a),
      flat_append (communities_of a.communities_partial a.communities) (rear a),
      unknowns_written (lows a),
      rear_written a,
      path_told a.path,
      med_written a.med,
      atomic_written a.atomic,
      aggregator_written a.aggregator,
      communities_written a.communities_partial a.communities,
    )
    (eleven (unknown_octets (lows a)) (written.attribute 64 1 (a.origin ∷ [])) (written.attribute 64 2 (flat_map written.segment_octets a.path)) (written.attribute 64 3 (address_octets a.next_hop))
    (med_octets a.med) (atomic_octets a.atomic) (aggregator_octets a.aggregator) (communities_octets a.communities_partial a.communities) (unknown_octets (middles a)) (wide_octets a.path) (unknown_octets (highs a)))

pub optional_written : (a : Option Attrs) → flat_map octets_of (optional_of a) ≡ optional_attrs_octets a
optional_written None = refl
optional_written (Some a) = attrs_are_written a

-- ---- each is taken

each_filter : {A : Type 0} (P : A → Type 0) (test : A → Bool) (xs : List A) → Each P xs → Each (λ x. P x × (test x ≡ true)) (filter test xs)
each_filter P test [] h = tt
each_filter {A} P test (x ∷ xs) h = elim (cases_Bool (test x)) [ inl t ↦ rw t ((h.0, t), each_filter P test xs h.1) | inr f ↦ rw f (each_filter P test xs h.1) ]

unknowns_taken : (test : Unknown → Bool) (us : List Unknown) → Each (λ (u : Unknown). (type_of u.kind ≡ None) × (test u ≡ true)) us → Each IsTaken (unknowns us)
unknowns_taken test [] h = tt
unknowns_taken test (u ∷ us) h = (h.0.0, unknowns_taken test us h.1)

med_taken : (m : Option ℕ) → FitsMed m → Each IsTaken (med_of m)
med_taken None h = tt
med_taken (Some n) h = (h, tt)

atomic_taken : (b : Bool) → Each IsTaken (atomic_of b)
atomic_taken true = (tt, tt)
atomic_taken false = tt

aggregator_taken : (g : Option Aggregator) → IsSoundAggregator g → FitsAggregator g → Each IsTaken (aggregator_of g)
aggregator_taken None h k = tt
aggregator_taken (Some g) h k = ((h, k), tt)

communities_taken : (partial : Bool) (cs : List ℕ) → Each (λ n. n < 4294967296) cs → Each IsTaken (communities_of partial cs)
communities_taken partial [] h = tt
communities_taken partial (c ∷ cs) h = (h, tt)

no_wide : has_wide [] ≡ true → ⊥
no_wide e = cc

has_some : (path : List Segment) → has_wide path ≡ true → 1 ≤ length path
has_some [] e = absurd (no_wide e)
has_some (s ∷ path) e = omega arith

wide_taken : (path : List Segment) → Each IsSoundSegment path → Each IsTaken (wide_of path)
wide_taken path h = by (has_wide path) refl
  where
    by : (b : Bool) → has_wide path ≡ b → Each IsTaken (cond b (attributes.As4Path path ∷ []) [])
    by true e = ((h, has_some path e), tt)
    by false e = tt

rear_taken : (a : Attrs) → AreSoundAttrs a → Each IsTaken (rear a)
rear_taken a s =
    each_append IsTaken (unknowns (middles a)) _ (unknowns_taken (λ u. nat_le 1 u.kind && nat_lt u.kind 17) (middles a) (each_filter _ (λ (u : Unknown). nat_le 1 u.kind && nat_lt u.kind 17) a.unknown s.unknown))
    (each_append IsTaken (wide_of a.path) _ (wide_taken a.path s.path)
    (unknowns_taken (λ u. nat_le 17 u.kind) (highs a) (each_filter _ (λ (u : Unknown). nat_le 17 u.kind) a.unknown s.unknown)))

pub attrs_taken : (a : Attrs) → AreSoundAttrs a → FitAttrs a → Each IsTaken (attributes_of a)
attrs_taken a s f =
    each_append IsTaken (unknowns (lows a)) _ (unknowns_taken (λ u. nat_lt u.kind 1) (lows a) (each_filter _ (λ (u : Unknown). nat_lt u.kind 1) a.unknown s.unknown)) (
      s.origin,
      (
        (a.path, s.path, refl),
        (
          s.next_hop,
          each_append IsTaken (med_of a.med) _ (med_taken a.med f.med)
              (each_append IsTaken (atomic_of a.atomic) _ (atomic_taken a.atomic)
              (each_append IsTaken (aggregator_of a.aggregator) _ (aggregator_taken a.aggregator s.aggregator f.aggregator)
              (each_append IsTaken (communities_of a.communities_partial a.communities) _ (communities_taken a.communities_partial a.communities f.communities)
              (rear_taken a s)))),
        ),
      ),
    )

-- ---- each has a type of its own

-- the types ascend from b on
Ascends : ℕ → List Attribute → Type 0
Ascends b [] = Unit {0}
Ascends b (x ∷ xs) = (b ≤ number_of x) × Ascends (suc (number_of x)) xs

new_from : (seen : ℕ → Bool) (b : ℕ) (xs : List Attribute) → ((q : ℕ) → b ≤ q → seen q ≡ false) → Ascends b xs → AreNew seen xs
unfolding Ascends
new_from seen b [] none h = tt
new_from seen b (x ∷ xs) none h = (none (number_of x) h.0, new_from (with_type seen x) (suc (number_of x)) xs (λ q le. rw (ne_eqb q (number_of x) (λ e. omega (arith, e, le))) (none q (omega (arith, le, h.0)))) h.1)

ascends_append : (b m : ℕ) (xs ys : List Attribute) → Ascends b xs → Each (λ x. number_of x < m) xs → b ≤ m → ((k : ℕ) → k ≤ m → Ascends k ys) → Ascends b (xs ++ ys)
unfolding Ascends
ascends_append b m [] ys h each le later = later b le
ascends_append b m (x ∷ xs) ys h each le later = (h.0, ascends_append (suc (number_of x)) m xs ys h.1 each.1 (omega (arith, each.0)) later)

from_case : {A : Type 0} (y x : A) (xs ys : List A) (b : Bool) → (Member x ys → Member x xs) → Member x (cond b (y ∷ ys) ys) → Member x (y ∷ xs)
from_case y x xs ys true later (inl e) = inl e
from_case y x xs ys true later (inr n) = inr (later n)
from_case y x xs ys false later n = inr (later n)

filter_from : {A : Type 0} (test : A → Bool) (xs : List A) (x : A) → Member x (filter test xs) → Member x xs
filter_from test [] x m = elim m [ ]
filter_from test (y ∷ xs) x m = from_case y x xs (filter test xs) (test y) (filter_from test xs x) m

rising_filter : (test : Unknown → Bool) (us : List Unknown) → IsRising is_type_before us → IsRising is_type_before (filter test us)
rising_filter test [] r = tt
rising_filter test (u ∷ us) r = elim (cases_Bool (test u)) [ inl t ↦ rw t (λ v m. r.0 v (filter_from test us v m), rising_filter test us r.1) | inr f ↦ rw f (rising_filter test us r.1) ]

unknowns_ascend : (b : ℕ) (us : List Unknown) → IsRising is_type_before us → Each (λ (u : Unknown). b ≤ u.kind) us → Ascends b (unknowns us)
unfolding Ascends
unknowns_ascend b [] r h = tt
unknowns_ascend b (u ∷ us) r h = (h.0, unknowns_ascend (suc u.kind) us r.1 (of_each _ us (λ v m. let less : u.kind < v.kind = ltb-true u.kind v.kind (r.0 v m) in omega arith)))

-- a type that isn't known and isn't 0 is above all that are
above_known : (k : ℕ) → type_of k ≡ None → 1 ≤ k → 9 ≤ k
above_known zero e le = absurd (omega arith)
above_known (suc zero) e le = absurd cc
above_known (suc (suc zero)) e le = absurd cc
above_known (suc (suc (suc zero))) e le = absurd cc
above_known (suc (suc (suc (suc zero)))) e le = absurd cc
above_known (suc (suc (suc (suc (suc zero))))) e le = absurd cc
above_known (suc (suc (suc (suc (suc (suc zero)))))) e le = absurd cc
above_known (suc (suc (suc (suc (suc (suc (suc zero))))))) e le = absurd cc
above_known (suc (suc (suc (suc (suc (suc (suc (suc zero)))))))) e le = absurd cc
above_known (suc (suc (suc (suc (suc (suc (suc (suc (suc k))))))))) e le = omega arith

-- nor is one from 17 on that of AS4_PATH
above_wide : (k : ℕ) → type_of k ≡ None → 17 ≤ k → 18 ≤ k
above_wide k none le = elim (cases_eq k 17) [
  | inl same ↦ absurd (is_known (sym (ap type_of same) ∙ none))
  | inr other ↦ omega (arith, le, other)
]
  where
    is_known : type_of 17 ≡ None → ⊥
    is_known e = cc

middle_each : (us : List Unknown) → Each (λ (u : Unknown). (type_of u.kind ≡ None) × ((nat_le 1 u.kind && nat_lt u.kind 17) ≡ true)) us → Each (λ (u : Unknown). 9 ≤ u.kind) us × Each (λ x. number_of x < 17) (unknowns us)
middle_each [] h = (tt, tt)
middle_each (u ∷ us) h =
    let later = middle_each us h.1 in
    let bounds = and_parts (nat_le 1 u.kind) (nat_lt u.kind 17) h.0.1 in
    ((above_known u.kind h.0.0 (leb-true 1 u.kind bounds.0), later.0), (ltb-true u.kind 17 bounds.1, later.1))

high_each : (us : List Unknown) → Each (λ (u : Unknown). (type_of u.kind ≡ None) × (nat_le 17 u.kind ≡ true)) us → Each (λ (u : Unknown). 18 ≤ u.kind) us
high_each [] h = tt
high_each (u ∷ us) h = (above_wide u.kind h.0.0 (leb-true 17 u.kind h.0.1), high_each us h.1)

low_each : (us : List Unknown) → Each (λ (u : Unknown). (type_of u.kind ≡ None) × (nat_lt u.kind 1 ≡ true)) us → Each (λ x. number_of x < 1) (unknowns us)
low_each [] h = tt
low_each (u ∷ us) h = (ltb-true u.kind 1 h.0.1, low_each us h.1)

weaker : (b c : ℕ) (us : List Unknown) → b ≤ c → Each (λ (u : Unknown). c ≤ u.kind) us → Each (λ (u : Unknown). b ≤ u.kind) us
weaker b c [] le h = tt
weaker b c (u ∷ us) le h = let here : c ≤ u.kind = h.0 in (omega (arith, le, here), weaker b c us le h.1)

from_zero : (us : List Unknown) → Each (λ (u : Unknown). 0 ≤ u.kind) us
from_zero [] = tt
from_zero (u ∷ us) = (omega arith, from_zero us)

med_ascends : (k : ℕ) (m : Option ℕ) → k ≤ 4 → Ascends k (med_of m) × Each (λ x. number_of x < 5) (med_of m)
unfolding Ascends
med_ascends k None le = (tt, tt)
med_ascends k (Some n) le = ((le, tt), (omega arith, tt))

atomic_ascends : (k : ℕ) (b : Bool) → k ≤ 5 → Ascends k (atomic_of b) × Each (λ x. number_of x < 7) (atomic_of b)
unfolding Ascends
atomic_ascends k true le = ((omega (arith, le), tt), (omega arith, tt))
atomic_ascends k false le = (tt, tt)

aggregator_ascends : (k : ℕ) (g : Option Aggregator) → k ≤ 7 → Ascends k (aggregator_of g) × Each (λ x. number_of x < 8) (aggregator_of g)
unfolding Ascends
aggregator_ascends k None le = (tt, tt)
aggregator_ascends k (Some g) le = ((le, tt), (omega arith, tt))

communities_ascend : (k : ℕ) (partial : Bool) (cs : List ℕ) → k ≤ 8 → Ascends k (communities_of partial cs) × Each (λ x. number_of x < 9) (communities_of partial cs)
unfolding Ascends
communities_ascend k partial [] le = (tt, tt)
communities_ascend k partial (c ∷ cs) le = ((le, tt), (omega arith, tt))

wide_ascends : (k : ℕ) (path : List Segment) → k ≤ 17 → Ascends k (wide_of path) × Each (λ x. number_of x < 18) (wide_of path)
unfolding Ascends
wide_ascends k path le = by (has_wide path)
  where
    by : (b : Bool) → Ascends k (cond b (attributes.As4Path path ∷ []) []) × Each (λ x. number_of x < 18) (cond b (attributes.As4Path path ∷ []) [])
    by true = ((le, tt), (omega arith, tt))
    by false = (tt, tt)

rear_ascends : (a : Attrs) → AreSoundAttrs a → (k : ℕ) → k ≤ 9 → Ascends k (rear a)
rear_ascends a s k le =
    let middle = middle_each (middles a) (each_filter _ (λ (u : Unknown). nat_le 1 u.kind && nat_lt u.kind 17) a.unknown s.unknown) in
    let highest = high_each (highs a) (each_filter _ (λ (u : Unknown). nat_le 17 u.kind) a.unknown s.unknown) in
    let last : (j : ℕ) → j ≤ 18 → Ascends j (unknowns (highs a)) = λ j le. unknowns_ascend j (highs a) (rising_filter (λ (u : Unknown). nat_le 17 u.kind) a.unknown s.rising) (weaker j 18 (highs a) le highest) in
    let wide : (j : ℕ) → j ≤ 17 → Ascends j (wide_of a.path ++ unknowns (highs a)) = λ j le. ascends_append j 18 _ _ (wide_ascends j a.path le).0 (wide_ascends j a.path le).1 (omega (arith, le)) last in
    ascends_append k 17 (unknowns (middles a)) _ (unknowns_ascend k (middles a) (rising_filter (λ (u : Unknown). nat_le 1 u.kind && nat_lt u.kind 17) a.unknown s.rising) (weaker k 9 (middles a) le middle.0))
    middle.1 (omega (arith, le)) wide

attrs_ascend : (a : Attrs) → AreSoundAttrs a → Ascends 0 (attributes_of a)
unfolding Ascends
attrs_ascend a s =
    let last : (k : ℕ) → k ≤ 9 → Ascends k (rear a) = λ k le. rear_ascends a s k le in
    let fourth : (k : ℕ) → k ≤ 8 → Ascends k (communities_of a.communities_partial a.communities ++ rear a) =
    λ k le. ascends_append k 9 _ _ (communities_ascend k a.communities_partial a.communities le).0 (communities_ascend k a.communities_partial a.communities le).1 (omega (arith, le)) last in
    let third : (k : ℕ) → k ≤ 7 → Ascends k (aggregator_of a.aggregator ++ (communities_of a.communities_partial a.communities ++ rear a)) =
    λ k le. ascends_append k 8 _ _ (aggregator_ascends k a.aggregator le).0 (aggregator_ascends k a.aggregator le).1 (omega (arith, le)) fourth in
    let second : (k : ℕ) → k ≤ 5 → Ascends k (atomic_of a.atomic ++ (aggregator_of a.aggregator ++ (communities_of a.communities_partial a.communities ++ rear a))) =
    λ k le. ascends_append k 7 _ _ (atomic_ascends k a.atomic le).0 (atomic_ascends k a.atomic le).1 (omega (arith, le)) third in
    let first : Ascends 4 (med_of a.med ++ (atomic_of a.atomic ++ (aggregator_of a.aggregator ++ (communities_of a.communities_partial a.communities ++ rear a)))) =
    ascends_append 4 5 _ _ (med_ascends 4 a.med (omega arith)).0 (med_ascends 4 a.med (omega arith)).1 (omega arith) second in
    ascends_append 0 1 (unknowns (lows a)) _ (unknowns_ascend 0 (lows a) (rising_filter (λ (u : Unknown). nat_lt u.kind 1) a.unknown s.rising) (from_zero (lows a)))
    (low_each (lows a) (each_filter _ (λ (u : Unknown). nat_lt u.kind 1) a.unknown s.unknown)) (omega arith)
    (λ k le. (le, (omega arith, (omega arith, first))))

pub attrs_new : (a : Attrs) → AreSoundAttrs a → AreNew no_types (attributes_of a)
attrs_new a s = new_from no_types 0 (attributes_of a) (λ q le. refl) (attrs_ascend a s)

-- ---- what they say

fold_append : (s : Said) (xs ys : List Attribute) → fold with_attribute s (xs ++ ys) ≡ fold with_attribute (fold with_attribute s xs) ys
fold_append s [] ys = refl
fold_append s (x ∷ xs) ys = fold_append (with_attribute s x) xs ys

abbrev made : Option ℕ → Option (List Segment) → Option (List Segment) → Option Ip → Option ℕ → Bool → Option Aggregator → List ℕ → Bool → List Unknown → Said
made o p w n m at g cs cp us = record { origin = o; path = p; wide = w; next_hop = n; med = m; atomic = at; aggregator = g; communities = cs; communities_partial = cp; unknown = us }

unknowns_said : (o : Option ℕ) (p w : Option (List Segment)) (n : Option Ip) (m : Option ℕ) (at : Bool) (g : Option Aggregator) (cs : List ℕ) (cp : Bool) (us vs : List Unknown)
    → fold with_attribute (made o p w n m at g cs cp us) (unknowns vs) ≡ made o p w n m at g cs cp (us ++ vs)
unknowns_said o p w n m at g cs cp us [] = ap (made o p w n m at g cs cp) (sym (append-nil us))
unknowns_said o p w n m at g cs cp us (v ∷ vs) = unknowns_said o p w n m at g cs cp (us ++ v ∷ []) vs ∙ ap (made o p w n m at g cs cp) (append_assoc us (v ∷ []) vs)

med_said : (o : Option ℕ) (p w : Option (List Segment)) (n : Option Ip) (us : List Unknown) (m : Option ℕ) → fold with_attribute (made o p w n None false None [] false us) (med_of m) ≡ made o p w n m false None [] false us
med_said o p w n us None = refl
med_said o p w n us (Some k) = refl

atomic_said : (o : Option ℕ) (p w : Option (List Segment)) (n : Option Ip) (us : List Unknown) (m : Option ℕ) (b : Bool) → fold with_attribute (made o p w n m false None [] false us) (atomic_of b) ≡ made o p w n m b None [] false us
atomic_said o p w n us m true = refl
atomic_said o p w n us m false = refl

aggregator_said : (o : Option ℕ) (p w : Option (List Segment)) (n : Option Ip) (us : List Unknown) (m : Option ℕ) (b : Bool) (g : Option Aggregator) → fold with_attribute (made o p w n m b None [] false us) (aggregator_of g) ≡ made o p w n m b g [] false us
aggregator_said o p w n us m b None = refl
aggregator_said o p w n us m b (Some g) = refl

some_length : (c : ℕ) (cs : List ℕ) (partial : Bool) → (partial && not (length (c ∷ cs) == 0)) ≡ partial
some_length c cs true = ap not (ne_eqb (length (c ∷ cs)) 0 (λ e. omega (arith, e)))
some_length c cs false = refl

communities_said : (o : Option ℕ) (p w : Option (List Segment)) (n : Option Ip) (us : List Unknown) (m : Option ℕ) (b : Bool) (g : Option Aggregator) (partial : Bool) (cs : List ℕ) → (cs ≡ [] → partial ≡ false)
    → fold with_attribute (made o p w n m b g [] false us) (communities_of partial cs) ≡ made o p w n m b g cs partial us
communities_said o p w n us m b g partial [] none = ap (λ (x : Bool). made o p w n m b g [] x us) (sym (none refl))
communities_said o p w n us m b g partial (c ∷ cs) none = ap (λ (x : Bool). made o p w n m b g (c ∷ cs) x us) (some_length c cs partial)

wide_said : (o : Option ℕ) (p : Option (List Segment)) (n : Option Ip) (m : Option ℕ) (at : Bool) (g : Option Aggregator) (cs : List ℕ) (cp : Bool) (us : List Unknown) (path : List Segment)
    → fold with_attribute (made o p None n m at g cs cp us) (wide_of path) ≡ made o p (wide_told path) n m at g cs cp us
wide_said o p n m at g cs cp us path = by (has_wide path)
  where
    by : (b : Bool) → fold with_attribute (made o p None n m at g cs cp us) (cond b (attributes.As4Path path ∷ []) []) ≡ made o p (cond b (Some path) None) n m at g cs cp us
    by true = refl
    by false = refl

rear_said : (a : Attrs) (o : Option ℕ) (p : Option (List Segment)) (n : Option Ip) (m : Option ℕ) (at : Bool) (g : Option Aggregator) (cs : List ℕ) (cp : Bool) (us : List Unknown)
    → fold with_attribute (made o p None n m at g cs cp us) (rear a) ≡ made o p (wide_told a.path) n m at g cs cp ((us ++ middles a) ++ highs a)
rear_said a o p n m at g cs cp us =
    fold_append (made o p None n m at g cs cp us) (unknowns (middles a)) (wide_of a.path ++ unknowns (highs a))
    ∙ ap (λ (x : Said). fold with_attribute x (wide_of a.path ++ unknowns (highs a))) (unknowns_said o p None n m at g cs cp us (middles a))
    ∙ fold_append (made o p None n m at g cs cp (us ++ middles a)) (wide_of a.path) (unknowns (highs a))
    ∙ ap (λ (x : Said). fold with_attribute x (unknowns (highs a))) (wide_said o p n m at g cs cp (us ++ middles a) a.path)
    ∙ unknowns_said o p (wide_told a.path) n m at g cs cp (us ++ middles a) (highs a)

attrs_said : (a : Attrs) → AreSoundAttrs a
    → said (attributes_of a) ≡ made (Some a.origin) (Some (map told_segment a.path)) (wide_told a.path) (Some a.next_hop) a.med a.atomic a.aggregator a.communities a.communities_partial ((lows a ++ middles a) ++ highs a)
attrs_said a s =
    fold_append nothing_said (unknowns (lows a)) _
    ∙ ap (λ (x : Said). fold with_attribute x (attributes.Origin a.origin ∷ attributes.AsPath (map told_segment a.path) ∷ attributes.NextHop a.next_hop ∷ (med_of a.med ++ (atomic_of a.atomic ++ (aggregator_of a.aggregator ++ (communities_of a.communities_partial a.communities ++ rear a))))))
    (unknowns_said None None None None None false None [] false [] (lows a))
    ∙ fold_append (made (Some a.origin) (Some (map told_segment a.path)) None (Some a.next_hop) None false None [] false (lows a)) (med_of a.med) _
    ∙ ap (λ (x : Said). fold with_attribute x (atomic_of a.atomic ++ (aggregator_of a.aggregator ++ (communities_of a.communities_partial a.communities ++ rear a)))) (med_said (Some a.origin) (Some (map told_segment a.path)) None (Some a.next_hop) (lows a) a.med)
    ∙ fold_append (made (Some a.origin) (Some (map told_segment a.path)) None (Some a.next_hop) a.med false None [] false (lows a)) (atomic_of a.atomic) _
    ∙ ap (λ (x : Said). fold with_attribute x (aggregator_of a.aggregator ++ (communities_of a.communities_partial a.communities ++ rear a))) (atomic_said (Some a.origin) (Some (map told_segment a.path)) None (Some a.next_hop) (lows a) a.med a.atomic)
    ∙ fold_append (made (Some a.origin) (Some (map told_segment a.path)) None (Some a.next_hop) a.med a.atomic None [] false (lows a)) (aggregator_of a.aggregator) _
    ∙ ap (λ (x : Said). fold with_attribute x (communities_of a.communities_partial a.communities ++ rear a)) (aggregator_said (Some a.origin) (Some (map told_segment a.path)) None (Some a.next_hop) (lows a) a.med a.atomic a.aggregator)
    ∙ fold_append (made (Some a.origin) (Some (map told_segment a.path)) None (Some a.next_hop) a.med a.atomic a.aggregator [] false (lows a)) (communities_of a.communities_partial a.communities) _
    ∙ ap (λ (x : Said). fold with_attribute x (rear a)) (communities_said (Some a.origin) (Some (map told_segment a.path)) None (Some a.next_hop) (lows a) a.med a.atomic a.aggregator a.communities_partial a.communities s.partial)
    ∙ rear_said a (Some a.origin) (Some (map told_segment a.path)) (Some a.next_hop) a.med a.atomic a.aggregator a.communities a.communities_partial (lows a)

in_some_band : (us : List Unknown) → SameMembers us ((filter is_lowest us ++ filter is_middle us) ++ filter is_highest us)
in_some_band us = record {
  onto = λ u m. elim (cases_lt u.kind 1) [
    | inl less ↦ Member-append_left (filter is_lowest us ++ filter is_middle us) _ u (Member-append_left (filter is_lowest us) _ u (Member-filter is_lowest us u m (lt-ltb u.kind 1 less)))
    | inr some ↦ elim (cases_lt u.kind 17) [
      | inl less ↦ Member-append_left (filter is_lowest us ++ filter is_middle us) _ u (Member-append_right (filter is_lowest us) _ u (Member-filter is_middle us u m (and_from _ _ (le-leb 1 u.kind some) (lt-ltb u.kind 17 less))))
      | inr more ↦ Member-append_right (filter is_lowest us ++ filter is_middle us) _ u (Member-filter is_highest us u m (le-leb 17 u.kind more))
    ]
  ];
  back = λ u m. elim (Member-append_cases (filter is_lowest us ++ filter is_middle us) _ u m) [
    | inl n ↦ elim (Member-append_cases (filter is_lowest us) _ u n) [ inl k ↦ filter_from _ us u k | inr k ↦ filter_from _ us u k ]
    | inr n ↦ filter_from _ us u n
  ];
}

pub are_said : (a : Attrs) → AreSoundAttrs a → AreSaid (said (attributes_of a)) a
are_said a s =
    subst (λ (x : Said). AreSaid x a) (sym (attrs_said a s)) (record {
      origin = refl;
      path = ap (λ (ss : List Segment). Some ss) (whole_back a.path s.path);
      next_hop = refl;
      med = refl;
      atomic = refl;
      aggregator = refl;
      communities = refl;
      communities_partial = refl;
      rising = s.rising;
      same = in_some_band a.unknown;
    })
