-- UPDATE messages as they are written (RFC 4271 4.1, 4.3; RFC 1997; RFC 6793 4.2.2).
use Rattle.std.specs.Prelude.{ℕ, ◌+◌, ◌/◌, ◌%◌, nat_le, nat_lt, Bool, false, ◌&&◌, List, [], ◌∷◌, ◌++◌, length, take, filter, flat_map, Option, Some, None, if◌then◌else◌}
use Rattle.std.specs.List.{list_any}
use Rattle.net_types.specs.Octets.{word, address_octets}
use Rattle.net_types.specs.Paths.{has_wide}
use Rattle.net_types.specs.declared.address.Ip.{Ip}
use Rattle.net_types.specs.declared.prefix.Prefix.{Prefix}
use Rattle.net_types.specs.declared.route.Aggregator.{Aggregator}
use Rattle.net_types.specs.declared.route.Attrs.{Attrs}
use Rattle.net_types.specs.declared.route.Segment.{Segment}
use Rattle.net_types.specs.declared.route.Segment.TheVariants.{Set, Sequence}
use Rattle.net_types.specs.declared.route.Unknown.{Unknown}
use Rattle.net_types.specs.declared.update.Update.{Update}

-- sixteen octets of ones (RFC 4271 4.1)
abbrev pub marker : List ℕ
marker = 255 ∷ 255 ∷ 255 ∷ 255 ∷ 255 ∷ 255 ∷ 255 ∷ 255 ∷ 255 ∷ 255 ∷ 255 ∷ 255 ∷ 255 ∷ 255 ∷ 255 ∷ 255 ∷ []

-- an AS number in two octets: 23456, AS_TRANS, stands for one that takes more (RFC 6793 9)
abbrev pub short : ℕ → List ℕ
short n = word (if nat_lt n 65536 then n else 23456)

-- a segment of AS_PATH: type 1 is AS_SET and 2 is AS_SEQUENCE
abbrev pub segment_octets : Segment → List ℕ
segment_octets (Set ns) = 1 ∷ length ns % 256 ∷ flat_map short ns
segment_octets (Sequence ns) = 2 ∷ length ns % 256 ∷ flat_map short ns

-- an attribute: flags, type, length, value; a length over 255 takes two octets, which the flag 0x10 says
abbrev pub attribute : ℕ → ℕ → List ℕ → List ℕ
attribute flags kind value = if nat_le (length value) 255 then flags ∷ kind ∷ length value ∷ value else (flags + 16) ∷ kind ∷ word (length value) ++ value

-- a number in four octets
abbrev pub long : ℕ → List ℕ
long n = word (n / 65536) ++ word n

-- a segment of AS4_PATH (RFC 6793 3)
abbrev pub wide_segment_octets : Segment → List ℕ
wide_segment_octets (Set ns) = 1 ∷ length ns % 256 ∷ flat_map long ns
wide_segment_octets (Sequence ns) = 2 ∷ length ns % 256 ∷ flat_map long ns

-- AS4_PATH: optional and transitive, of type 17, with the whole path, where some number takes more than two octets
abbrev pub wide_octets : List Segment → List ℕ
wide_octets path = if has_wide path then attribute 192 17 (flat_map wide_segment_octets path) else []

-- MULTI_EXIT_DISC: optional, of type 4
abbrev pub med_octets : Option ℕ → List ℕ
med_octets None = []
med_octets (Some n) = attribute 128 4 (long n)

-- ATOMIC_AGGREGATE: well-known, of type 6, without a value
abbrev pub atomic_octets : Bool → List ℕ
atomic_octets atomic = if atomic then attribute 64 6 [] else []

-- the flag 0x20 says that somebody on the way didn't know the attribute
abbrev pub passed_on : Bool → ℕ
passed_on partial = if partial then 224 else 192

-- AGGREGATOR: optional and transitive, of type 7
abbrev pub aggregator_octets : Option Aggregator → List ℕ
aggregator_octets None = []
aggregator_octets (Some a) = attribute (passed_on a.partial) 7 (word a.asn ++ address_octets a.ip)

-- COMMUNITIES: optional and transitive, of type 8; none is not written (RFC 1997)
abbrev pub communities_octets : Bool → List ℕ → List ℕ
communities_octets partial [] = []
communities_octets partial (c ∷ cs) = attribute (passed_on partial) 8 (flat_map long (c ∷ cs))

-- unknown attributes are passed on with the partial flag (RFC 4271 9)
abbrev pub unknown_octets : List Unknown → List ℕ
unknown_octets us = flat_map (λ (u : Unknown). attribute 224 u.kind u.value) us

-- the attributes, ascending by type: an unknown one of type 0 comes first, and those below 17 before AS4_PATH
abbrev pub attrs_octets : Attrs → List ℕ
attrs_octets a =
    unknown_octets (filter (λ (u : Unknown). nat_lt u.kind 1) a.unknown)
    ++ attribute 64 1 (a.origin ∷ []) ++ attribute 64 2 (flat_map segment_octets a.path) ++ attribute 64 3 (address_octets a.next_hop)
    ++ med_octets a.med ++ atomic_octets a.atomic ++ aggregator_octets a.aggregator ++ communities_octets a.communities_partial a.communities
    ++ unknown_octets (filter (λ (u : Unknown). nat_le 1 u.kind && nat_lt u.kind 17) a.unknown) ++ wide_octets a.path
    ++ unknown_octets (filter (λ (u : Unknown). nat_le 17 u.kind) a.unknown)

-- a prefix: its length in bits, and the fewest octets that hold so many
abbrev pub prefix_octets : Prefix → List ℕ
prefix_octets p = p.len ∷ take ((p.len + 7) / 8) (address_octets p.address)

-- a whole message of type 2
abbrev pub update_message : List ℕ → List ℕ → List ℕ → List ℕ
update_message withdrawn attrs announced =
    marker ++ word (23 + length withdrawn + length attrs + length announced) ++ 2 ∷ word (length withdrawn) ++ withdrawn ++ word (length attrs) ++ attrs ++ announced

-- prefixes, one after another
abbrev pub prefixes_octets : List Prefix → List ℕ
prefixes_octets ps = flat_map prefix_octets ps

-- the attributes of a message that may have none
abbrev pub optional_attrs_octets : Option Attrs → List ℕ
optional_attrs_octets None = []
optional_attrs_octets (Some a) = attrs_octets a

-- The canonical message of an update (this exchange's own rule): withdrawn prefixes, attributes and announced prefixes in
-- their order, flags as in the table, and two octets for a length only where one doesn't hold it.
abbrev pub canonical : Update → List ℕ
canonical u = update_message (prefixes_octets u.withdrawn) (optional_attrs_octets u.attrs) (prefixes_octets u.announced)

-- the canonical message that announces one prefix with another NEXT_HOP
abbrev pub announcement : Prefix → Attrs → Ip → List ℕ
announcement p a next_hop = update_message [] (attrs_octets (record a { next_hop = next_hop })) (prefix_octets p)

-- the canonical message that withdraws one prefix
abbrev pub withdrawal : Prefix → List ℕ
withdrawal p = update_message (prefix_octets p) [] []

-- with these attributes, if there are any, the announcement of some prefix takes more than 4096 octets
abbrev pub is_oversize_with : Option Attrs → List Prefix → Bool
is_oversize_with None ps = false
is_oversize_with (Some a) ps = list_any (λ p. nat_lt 4096 (length (announcement p a a.next_hop))) ps

-- some announced prefix couldn't be told in a message, whose length is 4096 octets at most (this exchange's own rule)
abbrev pub is_oversize : Update → Bool
is_oversize u = is_oversize_with u.attrs u.announced

-- the first AS of a path that begins with a sequence
abbrev pub first_as : List Segment → Option ℕ
first_as (Sequence (n ∷ ns) ∷ segments) = Some n
first_as (Sequence [] ∷ segments) = None
first_as (Set ns ∷ segments) = None
first_as [] = None
