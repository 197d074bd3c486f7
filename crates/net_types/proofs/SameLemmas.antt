-- Whatever routes say, they say the same as themselves.
use Rattle.std.proofs.Common.{◌≡◌, ℕ, Bool, true, false, nat_eq, List, [], ◌∷◌, refl}
use Rattle.std.specs.Prelude.{Option, Some, None}
use Rattle.std.specs.Cmp.Lexicographic.{pointwise}
use Rattle.std.proofs.lemmas.Bool.{and_from, eq-eqb}
use Rattle.net_types.specs.Attributes.{same_aggregator, same_attrs, same_bool, same_ip, same_option, same_segment, same_unknown}
use Rattle.net_types.specs.declared.route.Aggregator.{Aggregator}
use Rattle.net_types.specs.declared.route.Attrs.{Attrs}
use Rattle.net_types.specs.declared.route.Segment.{Segment}
use Rattle.net_types.specs.declared.route.Segment.TheVariants.{Sequence, Set}
use Rattle.net_types.specs.declared.route.Unknown.{Unknown}

pub nat_itself : (n : ℕ) → nat_eq n n ≡ true
nat_itself n = eq-eqb n n refl

pub bool_itself : (b : Bool) → same_bool b b ≡ true
bool_itself true = refl
bool_itself false = refl

pub option_itself : {X : Type 0} (same : X → X → Bool) → ((x : X) → same x x ≡ true) → (o : Option X) → same_option same o o ≡ true
option_itself same each None = refl
option_itself same each (Some x) = each x

pub list_itself : {X : Type 0} (same : X → X → Bool) → ((x : X) → same x x ≡ true) → (xs : List X) → pointwise same xs xs ≡ true
list_itself same each [] = refl
list_itself same each (x ∷ xs) = and_from (same x x) (pointwise same xs xs) (each x) (list_itself same each xs)

pub segment_itself : (s : Segment) → same_segment s s ≡ true
segment_itself (Set ns) = list_itself nat_eq nat_itself ns
segment_itself (Sequence ns) = list_itself nat_eq nat_itself ns

pub aggregator_itself : (a : Aggregator) → same_aggregator a a ≡ true
aggregator_itself a = and_from (same_bool a.partial a.partial) _ (bool_itself a.partial) (and_from (nat_eq a.asn a.asn) (same_ip a.ip a.ip) (nat_itself a.asn) (nat_itself a.ip.0))

pub unknown_itself : (u : Unknown) → same_unknown u u ≡ true
unknown_itself u = and_from (nat_eq u.kind u.kind) (pointwise nat_eq u.value u.value) (nat_itself u.kind) (list_itself nat_eq nat_itself u.value)

pub attrs_itself : (a : Attrs) → same_attrs a a ≡ true
attrs_itself a =
    and_from (nat_eq a.origin a.origin) _ (nat_itself a.origin)
    (and_from (pointwise same_segment a.path a.path) _ (list_itself same_segment segment_itself a.path)
    (and_from (same_ip a.next_hop a.next_hop) _ (nat_itself a.next_hop.0)
    (and_from (same_option nat_eq a.med a.med) _ (option_itself nat_eq nat_itself a.med)
    (and_from (same_bool a.atomic a.atomic) _ (bool_itself a.atomic)
    (and_from (same_option same_aggregator a.aggregator a.aggregator) _ (option_itself same_aggregator aggregator_itself a.aggregator)
    (and_from (pointwise nat_eq a.communities a.communities) _ (list_itself nat_eq nat_itself a.communities)
    (and_from (same_bool a.communities_partial a.communities_partial) (pointwise same_unknown a.unknown a.unknown) (bool_itself a.communities_partial) (list_itself same_unknown unknown_itself a.unknown))))))))
