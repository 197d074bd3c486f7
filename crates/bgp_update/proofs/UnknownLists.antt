-- The unknown attributes of a message: what is said has them all, each of a type of its own.
use Rattle.std.proofs.Common.{◌≡◌, ℕ, suc, ◌+◌, ◌≤◌, Bool, true, cond, List, [], ◌∷◌, ◌++◌, eqb, sum_by, IsPermutation, refl, sym, ap, ◌∙◌, inl, inr, arith, append_assoc}
use Rattle.std.specs.Prelude.{◌⊎◌, slice_index_or}
use Rattle.std.specs.List.{flat_map, fold}
use Rattle.std.specs.List.Sorted.{IsNonDecreasingBy}
use Rattle.std.proofs.lemmas.Bool.{cases_eq, cases_lt, cases_Bool, eq-eqb, ne_eqb, lt-ltb, false≢true}
use Rattle.std.proofs.lemmas.List.{append-nil}
use Rattle.std.proofs.lemmas.List.Sums.{sum_by-append, sum_by-cons}
use Rattle.std.proofs.lemmas.List.Sorted.{Contains-permutation, IsPermutation-sym, sum_by-IsPermutation}
use Rattle.net_types.specs.Sets.{IsRising, Member, SameMembers}
use Rattle.net_types.specs.UpdateFormat.{number_of, with_type}
use Rattle.net_types.specs.UpdateSpelling.{is_type_before}
use Rattle.net_types.specs.UpdateValue.{Said, nothing_said, said, with_attribute}
use Rattle.net_types.specs.declared.attribute.Attribute.{Attribute}
use Rattle.net_types.specs.declared.attribute.Attribute.TheVariants as attributes
use Rattle.net_types.specs.declared.route.Unknown.{Unknown}
use Rattle.bgp_update.proofs.PrefixLists.{member_from}
use Rattle.bgp_update.specs.Answers.{AreNew}
use Rattle.net_types.proofs.MemberLemmas.{Contains-Member}

-- the unknown attribute that an attribute is
abbrev pub unknown_in : Attribute → List Unknown
unknown_in (attributes.Origin n) = []
unknown_in (attributes.AsPath segments) = []
unknown_in (attributes.NextHop ip) = []
unknown_in (attributes.MultiExitDisc n) = []
unknown_in attributes.LocalPref = []
unknown_in attributes.AtomicAggregate = []
unknown_in (attributes.Aggregator a) = []
unknown_in (attributes.Communities partial ns) = []
unknown_in (attributes.As4Path segments) = []
unknown_in (attributes.Unknown u) = u ∷ []
unknown_in (attributes.Ignored number) = []

abbrev pub unknowns_of : List Attribute → List Unknown
unknowns_of all = flat_map unknown_in all

said_more : (s : Said) (a : Attribute) → (with_attribute s a).unknown ≡ s.unknown ++ unknown_in a
said_more s (attributes.Origin n) = sym (append-nil s.unknown)
said_more s (attributes.AsPath segments) = sym (append-nil s.unknown)
said_more s (attributes.NextHop ip) = sym (append-nil s.unknown)
said_more s (attributes.MultiExitDisc n) = sym (append-nil s.unknown)
said_more s attributes.LocalPref = sym (append-nil s.unknown)
said_more s attributes.AtomicAggregate = sym (append-nil s.unknown)
said_more s (attributes.Aggregator a) = sym (append-nil s.unknown)
said_more s (attributes.Communities partial ns) = sym (append-nil s.unknown)
said_more s (attributes.As4Path segments) = sym (append-nil s.unknown)
said_more s (attributes.Unknown u) = refl
said_more s (attributes.Ignored number) = sym (append-nil s.unknown)

said_all : (s : Said) (all : List Attribute) → (fold with_attribute s all).unknown ≡ s.unknown ++ unknowns_of all
said_all s [] = sym (append-nil s.unknown)
said_all s (a ∷ all) = said_all (with_attribute s a) all ∙ ap (λ (us : List Unknown). us ++ unknowns_of all) (said_more s a) ∙ append_assoc s.unknown (unknown_in a) (unknowns_of all)

pub said_unknowns : (all : List Attribute) → (said all).unknown ≡ unknowns_of all
said_unknowns all = said_all nothing_said all

-- how many have a type
abbrev pub count : ℕ → List Unknown → ℕ
count q us = sum_by (λ (u : Unknown). cond (eqb q u.kind) 1 0) us

one_in : (q : ℕ) (a : Attribute) → (count q (unknown_in a) ≡ 0) ⊎ ((count q (unknown_in a) ≡ 1) × (q ≡ number_of a))
one_in q (attributes.Origin n) = inl refl
one_in q (attributes.AsPath segments) = inl refl
one_in q (attributes.NextHop ip) = inl refl
one_in q (attributes.MultiExitDisc n) = inl refl
one_in q attributes.LocalPref = inl refl
one_in q attributes.AtomicAggregate = inl refl
one_in q (attributes.Aggregator a) = inl refl
one_in q (attributes.Communities partial ns) = inl refl
one_in q (attributes.As4Path segments) = inl refl
one_in q (attributes.Unknown u) = elim (cases_eq q u.kind) [
  | inl same ↦ let here : cond (eqb q u.kind) 1 0 ≡ 1 = ap (λ (b : Bool). let n : ℕ = cond b 1 0 in n) (eq-eqb q u.kind same) in inr (omega (arith, here), same)
  | inr other ↦ let here : cond (eqb q u.kind) 1 0 ≡ 0 = ap (λ (b : Bool). let n : ℕ = cond b 1 0 in n) (ne_eqb q u.kind other) in inl (omega (arith, here))
]
one_in q (attributes.Ignored number) = inl refl

split : (q : ℕ) (a : Attribute) (all : List Attribute) → count q (unknowns_of (a ∷ all)) ≡ count q (unknown_in a) + count q (unknowns_of all)
split q a all = sum_by-append (λ (u : Unknown). cond (eqb q u.kind) 1 0) (unknown_in a) (unknowns_of all)

seen_more : (seen : ℕ → Bool) (a : Attribute) (q : ℕ) → seen q ≡ true → with_type seen a q ≡ true
seen_more seen a q h = elim (cases_Bool (eqb q (number_of a))) [ inl t ↦ rw t refl | inr f ↦ rw f h ]

-- none has a type that came before
none_seen : (seen : ℕ → Bool) (all : List Attribute) → AreNew seen all → (q : ℕ) → seen q ≡ true → count q (unknowns_of all) ≡ 0
none_seen seen [] new q h = refl
none_seen seen (a ∷ all) new q h =
    let later : count q (unknowns_of all) ≡ 0 = none_seen (with_type seen a) all new.1 q (seen_more seen a q h) in
    elim (one_in q a) [
      | inl none ↦ omega (arith, split q a all, none, later)
      | inr one ↦ absurd (false≢true (sym new.0 ∙ ap seen (sym one.1) ∙ h))
    ]

pub one_each : (seen : ℕ → Bool) (all : List Attribute) → AreNew seen all → (q : ℕ) → count q (unknowns_of all) ≤ 1
one_each seen [] new q = omega arith
one_each seen (a ∷ all) new q =
    elim (one_in q a) [
      | inl none ↦ let later : count q (unknowns_of all) ≤ 1 = one_each (with_type seen a) all new.1 q in omega (arith, split q a all, none, later)
      | inr one ↦
          let here : with_type seen a q ≡ true = rw (eq-eqb q (number_of a) one.1) refl in
          let later : count q (unknowns_of all) ≡ 0 = none_seen (with_type seen a) all new.1 q here in
          omega (arith, split q a all, one.0, later)
    ]

pub counted : (q : ℕ) (us : List Unknown) (v : Unknown) → Member v us → q ≡ v.kind → 1 ≤ count q us
counted q [] v m e = elim m [ ]
counted q (u ∷ us) v (inl same) e =
    let here : cond (eqb q u.kind) 1 0 ≡ 1 = ap (λ (b : Bool). let n : ℕ = cond b 1 0 in n) (eq-eqb q u.kind (e ∙ ap (λ (w : Unknown). w.kind) same)) in
    omega (arith, here, sum_by-cons (λ (u : Unknown). cond (eqb q u.kind) 1 0) u us)
counted q (u ∷ us) v (inr m) e =
    let later : 1 ≤ count q us = counted q us v m e in omega (arith, later, sum_by-cons (λ (u : Unknown). cond (eqb q u.kind) 1 0) u us)

tail_sorted : (u : Unknown) (us : List Unknown) → IsNonDecreasingBy (λ (u : Unknown). u.kind) (u ∷ us) → IsNonDecreasingBy (λ (u : Unknown). u.kind) us
tail_sorted u us h i j d le less = h (suc i) (suc j) d (omega arith) (omega arith)

-- sorted ones of which each type comes once rise
pub rising_unknowns : (us : List Unknown) → IsNonDecreasingBy (λ (u : Unknown). u.kind) us → ((q : ℕ) → count q us ≤ 1) → IsRising is_type_before us
rising_unknowns [] h once = tt
rising_unknowns (u ∷ us) h once = (λ v m. above v m, rising_unknowns us (tail_sorted u us h) (λ q. omega (arith, once q, sum_by-cons (λ (u : Unknown). cond (eqb q u.kind) 1 0) u us)))
  where
    above : (v : Unknown) → Member v us → is_type_before u v ≡ true
    above v m =
        let c = Contains-Member us v m in
        let le : u.kind ≤ (slice_index_or us c.0 v).kind = h 0 (suc c.0) v (omega arith) (omega (arith, c.1)) in
        let at : (slice_index_or us c.0 v).kind ≡ v.kind = ap (λ (w : Unknown). w.kind) c.2 in
        elim (cases_lt u.kind v.kind) [
          | inl less ↦ lt-ltb u.kind v.kind less
          | inr more ↦
              let same : u.kind ≡ v.kind = omega (arith, le, at, more) in
              let later : 1 ≤ count u.kind us = counted u.kind us v m same in
              let here : cond (eqb u.kind u.kind) 1 0 ≡ 1 = ap (λ (b : Bool). let n : ℕ = cond b 1 0 in n) (eq-eqb u.kind u.kind refl) in
              absurd (omega (arith, later, here, once u.kind, sum_by-cons (λ (w : Unknown). cond (eqb u.kind w.kind) 1 0) u us))
        ]

-- a permutation has the same members
pub moved_members : {A : Type 0} (xs ys : List A) → IsPermutation xs ys → SameMembers ys xs
moved_members xs ys moved = record {
  onto = λ x m. member_from xs x (Contains-permutation ys xs x (IsPermutation-sym xs ys moved) (Contains-Member ys x m));
  back = λ x m. member_from ys x (Contains-permutation xs ys x moved (Contains-Member xs x m));
}

-- so do the sorted unknown attributes of what is said
pub rising_moved : (all : List Attribute) (seen : ℕ → Bool) (us : List Unknown) → AreNew seen all → IsPermutation (said all).unknown us → IsNonDecreasingBy (λ (u : Unknown). u.kind) us → IsRising is_type_before us
rising_moved all seen us new moved sorted = rising_unknowns us sorted (λ q.
    let same = sum_by-IsPermutation (λ (u : Unknown). cond (eqb q u.kind) 1 0) (said all).unknown us moved in
    let is : count q (said all).unknown ≡ count q (unknowns_of all) = ap (count q) (said_unknowns all) in
    omega (arith, same, is, one_each seen all new q))
