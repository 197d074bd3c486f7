-- When two routes say the same, field by field.
use Rattle.std.specs.Prelude.{Bool, true, false, ◌&&◌, nat_eq, List, Option, Some, None}
use Rattle.std.specs.Cmp.Lexicographic.{pointwise}
use Rattle.net_types.specs.declared.address.Ip.{Ip}
use Rattle.net_types.specs.declared.route.Aggregator.{Aggregator}
use Rattle.net_types.specs.declared.route.Attrs.{Attrs}
use Rattle.net_types.specs.declared.route.Offer.{Offer}
use Rattle.net_types.specs.declared.route.Part.{Part}
use Rattle.net_types.specs.declared.route.Segment.{Segment}
use Rattle.net_types.specs.declared.route.Segment.TheVariants.{Set, Sequence}
use Rattle.net_types.specs.declared.route.Unknown.{Unknown}

-- both absent, or both there and the same
abbrev pub same_option : {X : Type 0} → (X → X → Bool) → Option X → Option X → Bool
same_option same None None = true
same_option same (Some x) (Some y) = same x y
same_option same None (Some y) = false
same_option same (Some x) None = false

-- both true or both false
abbrev pub same_bool : Bool → Bool → Bool
same_bool true b = b
same_bool false true = false
same_bool false false = true

-- addresses are numbers
abbrev pub same_ip : Ip → Ip → Bool
same_ip a b = nat_eq a.0 b.0

-- a set isn't a sequence, though both have the same numbers
abbrev pub same_segment : Segment → Segment → Bool
same_segment (Set ns) (Set ms) = pointwise nat_eq ns ms
same_segment (Sequence ns) (Sequence ms) = pointwise nat_eq ns ms
same_segment (Set ns) (Sequence ms) = false
same_segment (Sequence ns) (Set ms) = false

-- the same AS and address, and the same partial mark
abbrev pub same_aggregator : Aggregator → Aggregator → Bool
same_aggregator a b = same_bool a.partial b.partial && (nat_eq a.asn b.asn && same_ip a.ip b.ip)

-- the same type and the same octets
abbrev pub same_unknown : Unknown → Unknown → Bool
same_unknown a b = nat_eq a.kind b.kind && pointwise nat_eq a.value b.value

-- the same in each field
abbrev pub same_attrs : Attrs → Attrs → Bool
same_attrs a b =
    nat_eq a.origin b.origin && (pointwise same_segment a.path b.path && (same_ip a.next_hop b.next_hop && (same_option nat_eq a.med b.med
    && (same_bool a.atomic b.atomic && (same_option same_aggregator a.aggregator b.aggregator && (pointwise nat_eq a.communities b.communities
    && (same_bool a.communities_partial b.communities_partial && pointwise same_unknown a.unknown b.unknown)))))))

-- the same exporter by the same port, and both discarded or both not
abbrev pub same_offer : Offer → Offer → Bool
same_offer a b = nat_eq a.exporter.0 b.exporter.0 && (nat_eq a.port.0 b.port.0 && same_bool a.hole b.hole)

-- the same sender and best participant, and the same offers in order
abbrev pub same_part : Part → Part → Bool
same_part a b = nat_eq a.sender.0 b.sender.0 && (nat_eq a.best.0 b.best.0 && pointwise same_offer a.offers b.offers)

-- the same parts in order
abbrev pub same_signature : List Part → List Part → Bool
same_signature a b = pointwise same_part a b
