-- The tests of attributes and signatures decide whether they are equal.
use Rattle.std.proofs.Common.{◌≡◌, Bool, true, false, nat_eq, sym, ap, subst, refl}
use Rattle.std.specs.Prelude.{Option, Some, None}
use Rattle.std.specs.Cmp.Lexicographic.{pointwise, pointwise_decides}
use Rattle.std.proofs.lemmas.Bool.{and_from, and_parts, eq-eqb, eqb-true}
use Rattle.net_types.proofs.SameLemmas.{aggregator_itself, attrs_itself, bool_itself, list_itself, nat_itself, option_itself, segment_itself, unknown_itself}
use Rattle.net_types.specs.Attributes.{same_option, same_bool, same_ip, same_segment, same_aggregator, same_unknown, same_attrs, same_offer, same_part, same_signature}
use Rattle.net_types.specs.declared.route.Aggregator.{Aggregator}
use Rattle.net_types.specs.declared.route.Attrs.{Attrs}
use Rattle.net_types.specs.declared.route.Offer.{Offer}
use Rattle.net_types.specs.declared.route.Part.{Part}
use Rattle.net_types.specs.declared.route.Segment.{Segment}
use Rattle.net_types.specs.declared.route.Segment.TheVariants.{Set, Sequence}
use Rattle.net_types.specs.declared.route.Unknown.{Unknown}

-- a test is true exactly of equal values
abbrev pub IsEqualityTest : {A : Type 0} → (A → A → Bool) → Type 0
IsEqualityTest {A} test = (x y : A) → (test x y ≡ true → x ≡ y) × (x ≡ y → test x y ≡ true)

pub from_itself : {A : Type 0} (test : A → A → Bool) → ((x y : A) → test x y ≡ true → x ≡ y) → ((x : A) → test x x ≡ true) → IsEqualityTest test
from_itself test right itself x y = (right x y, λ e. subst (λ z. test x z ≡ true) e (itself x))

pub nat_test : IsEqualityTest nat_eq
nat_test x y = (eqb-true x y, eq-eqb x y)

numbers_test : IsEqualityTest (pointwise nat_eq)
numbers_test = pointwise_decides nat_test

option_right : {A : Type 0} (test : A → A → Bool) → IsEqualityTest test → (x y : Option A) → same_option test x y ≡ true → x ≡ y
option_right test t None None e = refl
option_right test t (Some x) (Some y) e = ap (λ z. Some z) ((t x y).0 e)
option_right test t None (Some y) e = cc
option_right test t (Some x) None e = cc

pub option_test : {A : Type 0} (test : A → A → Bool) → IsEqualityTest test → IsEqualityTest (same_option test)
option_test test t = from_itself (same_option test) (option_right test t) (option_itself test (λ x. (t x x).1 refl))

bool_right : (a b : Bool) → same_bool a b ≡ true → a ≡ b
bool_right true b e = sym e
bool_right false true e = cc
bool_right false false e = refl

-- ---- attributes

segment_right : (a b : Segment) → same_segment a b ≡ true → a ≡ b
segment_right (Set ns) (Set ms) e = ap (λ xs. Set xs) ((numbers_test ns ms).0 e)
segment_right (Sequence ns) (Sequence ms) e = ap (λ xs. Sequence xs) ((numbers_test ns ms).0 e)
segment_right (Set ns) (Sequence ms) e = cc
segment_right (Sequence ns) (Set ms) e = cc

aggregator_right : (a b : Aggregator) → same_aggregator a b ≡ true → a ≡ b
aggregator_right a b e =
    let one = and_parts (same_bool a.partial b.partial) _ e in
    let two = and_parts (nat_eq a.asn b.asn) _ one.1 in
    let partial = bool_right a.partial b.partial one.0 in
    let asn = eqb-true a.asn b.asn two.0 in
    let ip = eqb-true a.ip.0 b.ip.0 two.1 in
    λ i. record { partial = partial i; asn = asn i; ip = record { 0 = ip i } }

unknown_right : (a b : Unknown) → same_unknown a b ≡ true → a ≡ b
unknown_right a b e =
    let one = and_parts (nat_eq a.kind b.kind) _ e in
    let kind = eqb-true a.kind b.kind one.0 in
    let value = (numbers_test a.value b.value).0 one.1 in
    λ i. record { kind = kind i; value = value i }

attrs_right : (a b : Attrs) → same_attrs a b ≡ true → a ≡ b
attrs_right a b e =
    let p1 = and_parts (nat_eq a.origin b.origin) _ e in
    let p2 = and_parts (pointwise same_segment a.path b.path) _ p1.1 in
    let p3 = and_parts (same_ip a.next_hop b.next_hop) _ p2.1 in
    let p4 = and_parts (same_option nat_eq a.med b.med) _ p3.1 in
    let p5 = and_parts (same_bool a.atomic b.atomic) _ p4.1 in
    let p6 = and_parts (same_option same_aggregator a.aggregator b.aggregator) _ p5.1 in
    let p7 = and_parts (pointwise nat_eq a.communities b.communities) _ p6.1 in
    let p8 = and_parts (same_bool a.communities_partial b.communities_partial) _ p7.1 in
    let origin = eqb-true a.origin b.origin p1.0 in
    let path = (pointwise_decides (from_itself same_segment segment_right segment_itself) a.path b.path).0 p2.0 in
    let next_hop = eqb-true a.next_hop.0 b.next_hop.0 p3.0 in
    let med = (option_test nat_eq nat_test a.med b.med).0 p4.0 in
    let atomic = bool_right a.atomic b.atomic p5.0 in
    let aggregator = (option_test same_aggregator (from_itself same_aggregator aggregator_right aggregator_itself) a.aggregator b.aggregator).0 p6.0 in
    let communities = (numbers_test a.communities b.communities).0 p7.0 in
    let partial = bool_right a.communities_partial b.communities_partial p8.0 in
    let unknown = (pointwise_decides (from_itself same_unknown unknown_right unknown_itself) a.unknown b.unknown).0 p8.1 in
    λ i. record {
      origin = origin i;
      path = path i;
      next_hop = record { 0 = next_hop i };
      med = med i;
      atomic = atomic i;
      aggregator = aggregator i;
      communities = communities i;
      communities_partial = partial i;
      unknown = unknown i;
    }

-- attributes, where there are any
pub optional_test : IsEqualityTest (same_option same_attrs)
optional_test = option_test same_attrs (from_itself same_attrs attrs_right attrs_itself)

-- ---- signatures

offer_right : (a b : Offer) → same_offer a b ≡ true → a ≡ b
offer_right a b e =
    let one = and_parts (nat_eq a.exporter.0 b.exporter.0) _ e in
    let exporter = eqb-true a.exporter.0 b.exporter.0 one.0 in
    let two = and_parts (nat_eq a.port.0 b.port.0) _ one.1 in
    let port = eqb-true a.port.0 b.port.0 two.0 in
    let hole = bool_right a.hole b.hole two.1 in
    λ i. record { exporter = record { 0 = exporter i }; port = record { 0 = port i }; hole = hole i }

offer_itself : (a : Offer) → same_offer a a ≡ true
offer_itself a = and_from _ _ (nat_itself a.exporter.0) (and_from _ _ (nat_itself a.port.0) (bool_itself a.hole))

part_right : (a b : Part) → same_part a b ≡ true → a ≡ b
part_right a b e =
    let one = and_parts (nat_eq a.sender.0 b.sender.0) _ e in
    let two = and_parts (nat_eq a.best.0 b.best.0) _ one.1 in
    let sender = eqb-true a.sender.0 b.sender.0 one.0 in
    let best = eqb-true a.best.0 b.best.0 two.0 in
    let offers = (pointwise_decides (from_itself same_offer offer_right offer_itself) a.offers b.offers).0 two.1 in
    λ i. record { sender = record { 0 = sender i }; best = record { 0 = best i }; offers = offers i }

part_itself : (a : Part) → same_part a a ≡ true
part_itself a = and_from _ _ (nat_itself a.sender.0) (and_from _ _ (nat_itself a.best.0) (list_itself same_offer offer_itself a.offers))

pub signature_test : IsEqualityTest same_signature
signature_test = pointwise_decides (from_itself same_part part_right part_itself)
