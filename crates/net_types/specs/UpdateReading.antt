-- Reading an UPDATE message from left to right, with the first fault in the order of the checks.
use Rattle.std.specs.Prelude.{ℕ, ◌+◌, ◌*◌, ◌/◌, Bool, true, false, not, ◌&&◌, ◌||◌, ◌==◌, nat_le, nat_lt, List, [], ◌∷◌, length, take, drop, filter, slice_index, Result, Ok, Err, Option, Some, None, if◌then◌else◌}
use Rattle.std.specs.List.{list_all, list_any}
use Rattle.std.specs.Option.{option_and_then, option_map}
use Rattle.std.specs.Ordering.{eq_by_cmp}
use Rattle.grammar.specs.FormatReading.{Reader, ◌>>=◌, ◌>>◌, pure, read_octet, read_octets, read_ensure, read_all, read_items, read_to_end, read_two_octets}
use Rattle.grammar.specs.Numbers.{big_endian}
use Rattle.grammar.specs.Reading.{on_read}
use Rattle.net_types.specs.FirstBits.{first_bits_of}
use Rattle.net_types.specs.AttributeTypes.{has_length, type_flags, type_length, type_of}
use Rattle.net_types.specs.UpdateFormat.{Head, Parts, address, is_complete, is_long, is_optional, is_partial, is_transitive, longs, no_types, padded, segment_of, unknown_value, upper_flags, wide_value, with_type, words}
use Rattle.net_types.specs.Keys.{prefix_cmp}
use Rattle.net_types.specs.Maps.{ordered}
use Rattle.net_types.specs.UpdateSpelling.{is_type_before}
use Rattle.net_types.specs.UpdateValue.{Said, said, said_path}
use Rattle.net_types.specs.declared.attribute.Attribute.{Attribute}
use Rattle.net_types.specs.declared.attribute.Attribute.TheVariants.{AsPath, AtomicAggregate, Communities, Ignored, LocalPref, MultiExitDisc, NextHop, Origin}
use Rattle.net_types.specs.declared.attribute.Attribute.TheVariants as attributes
use Rattle.net_types.specs.declared.attribute.AttributeType.{AttributeType}
use Rattle.net_types.specs.declared.attribute.AttributeType.TheVariants as types
use Rattle.net_types.specs.declared.prefix.Prefix.{Prefix}
use Rattle.net_types.specs.declared.address.Ip.{Ip}
use Rattle.net_types.specs.declared.route.Attrs.{Attrs}
use Rattle.net_types.specs.declared.route.Unknown.{Unknown}
use Rattle.net_types.specs.declared.update.Update.{Update}
use Rattle.net_types.specs.declared.route.Segment.{Segment}
use Rattle.net_types.specs.declared.update.Fault.{Fault}
use Rattle.net_types.specs.declared.update.Fault.TheVariants as faults

-- the prefix of the first n bits of an address
abbrev pub read_first_bits : ℕ → ℕ → Reader Fault Prefix
read_first_bits n a s = if nat_le n 32 then Ok (first_bits_of n a, s) else Err faults.Network

-- a prefix
unfoldable pub read_prefix : Reader Fault Prefix
read_prefix = do
  len ← read_octet faults.Network
  bits ← read_octets ((len + 7) / 8) faults.Network
  read_first_bits len (padded bits)

-- the prefixes of a block
unfoldable pub read_prefixes : List ℕ → Result (List Prefix) Fault
read_prefixes s = read_items read_prefix s

-- a segment of a path, whose numbers have so many octets each
unfoldable pub read_segment_by : ℕ → (List ℕ → List ℕ) → Reader Fault Segment
read_segment_by size numbers = do
  kind ← read_octet faults.AsPath
  read_ensure (kind == 1 || kind == 2) faults.AsPath
  count ← read_octet faults.AsPath
  read_ensure (nat_le 1 count) faults.AsPath
  asns ← read_octets (count * size) faults.AsPath
  pure (segment_of kind (numbers asns))

-- the segments of AS_PATH
unfoldable pub read_segments : List ℕ → Result (List Segment) Fault
read_segments s = read_items (read_segment_by 2 words) s

-- the segments of AS4_PATH
unfoldable pub read_wide_segments : List ℕ → Result (List Segment) Fault
read_wide_segments s = read_items (read_segment_by 4 longs) s

-- what was read of an AS4_PATH: where it is wrong, it says nothing
abbrev pub wide_read : Result (List Segment) Fault → Attribute
wide_read (Ok segments) = wide_value segments
wide_read (Err fault) = Ignored 17

-- what was read of a block, in front of what stands behind it
abbrev pub within : {X : Type 0} → Result X Fault → Reader Fault X
within read s = on_read read (λ x. Ok (x, s))

-- the length of a value, in one octet or two
unfoldable pub read_value_length : Bool → Reader Fault ℕ
read_value_length true = read_two_octets faults.Malformed
read_value_length false = read_octet faults.Malformed

-- a value of a type in the table, with its length
unfoldable pub read_known_value : AttributeType → Bool → List ℕ → Reader Fault Attribute
read_known_value types.Origin partial inner = do
  read_ensure (nat_le (big_endian inner) 2) faults.Origin
  pure (Origin (big_endian inner))
read_known_value types.AsPath partial inner = do
  segments ← within (read_segments inner)
  pure (AsPath segments)
read_known_value types.NextHop partial inner = do
  read_ensure (nat_le 1 (slice_index inner 0) && nat_lt (slice_index inner 0) 224) faults.NextHopSyntax
  pure (NextHop (address inner))
read_known_value types.MultiExitDisc partial inner = pure (MultiExitDisc (big_endian inner))
read_known_value types.LocalPref partial inner = pure LocalPref
read_known_value types.AtomicAggregate partial inner = pure AtomicAggregate
read_known_value types.Aggregator partial inner = pure (attributes.Aggregator (record { partial = partial; asn = big_endian (take 2 inner); ip = address (drop 2 inner) }))
read_known_value types.Communities partial inner = pure (Communities partial (longs inner))
read_known_value types.As4Path partial inner = pure (wide_read (read_wide_segments inner))

-- a value
unfoldable pub read_value : Option AttributeType → ℕ → ℕ → List ℕ → Reader Fault Attribute
read_value None number flags inner = do
  read_ensure (is_optional flags) faults.UnknownWellKnown
  pure (unknown_value (is_transitive flags) number inner)
read_value (Some type) number flags inner = do
  read_ensure (upper_flags flags == upper_flags (type_flags type)) faults.Flags
  read_ensure (has_length (type_length type) (length inner)) faults.Length
  read_known_value type (is_partial flags) inner

-- an attribute, of a type that isn't among those that have come
unfoldable pub read_attribute : (ℕ → Bool) → Reader Fault Attribute
read_attribute seen = do
  flags ← read_octet faults.Malformed
  number ← read_octet faults.Malformed
  len ← read_value_length (is_long flags)
  inner ← read_octets len faults.Malformed
  read_ensure (not (seen number)) faults.Malformed
  read_value (type_of number) number flags inner

-- the attributes of a block
unfoldable pub read_attributes : List ℕ → Result (List Attribute) Fault
read_attributes s = read_all (length s) read_attribute with_type no_types s

-- what stands in front of the announced prefixes, in a message of n octets
unfoldable pub read_head : ℕ → Reader Fault Head
read_head n = do
  marker ← read_octets 16 faults.BadHeader
  read_ensure (list_all (λ c. c == 255) marker) faults.BadHeader
  len ← read_two_octets faults.BadHeader
  read_ensure (nat_le 19 len && (nat_le len 4096 && len == n)) faults.BadHeader
  type ← read_octet faults.BadHeader
  read_ensure (type == 2) faults.NotUpdate
  read_ensure (nat_le 23 len) faults.BadHeader
  withdrawn_len ← read_two_octets faults.Malformed
  read_ensure (nat_le (withdrawn_len + 23) len) faults.Malformed
  withdrawn ← read_octets withdrawn_len faults.Malformed
  attributes_len ← read_two_octets faults.Malformed
  read_ensure (nat_le (withdrawn_len + attributes_len + 23) len) faults.Malformed
  prefixes ← within (read_prefixes withdrawn)
  attributes ← read_octets attributes_len faults.Malformed
  all ← within (read_attributes attributes)
  pure (record { withdrawn = prefixes; attributes = all })

-- a whole message
unfoldable pub read_message : List ℕ → Result Parts Fault
read_message b = read_to_end (read_head (length b)) read_prefix (λ h ps. is_complete (said h.attributes) ps) faults.MissingWellKnown
    (λ h ps. record { withdrawn = h.withdrawn; attributes = h.attributes; announced = ps }) b

-- an unknown attribute among those that ascend by type
abbrev pub insert_unknown : Unknown → List Unknown → List Unknown
insert_unknown u [] = u ∷ []
insert_unknown u (v ∷ vs) = if is_type_before v u then v ∷ insert_unknown u vs else u ∷ v ∷ vs

-- unknown attributes, ascending by type
abbrev pub by_type : List Unknown → List Unknown
by_type [] = []
by_type (u ∷ us) = insert_unknown u (by_type us)

-- the attributes of a route, where ORIGIN, AS_PATH and NEXT_HOP are said
abbrev pub said_attrs : Said → Option Attrs
said_attrs s =
    option_and_then (λ (origin : ℕ). option_and_then (λ (path : List Segment). option_map (λ (next_hop : Ip). record {
      origin = origin;
      path = path;
      next_hop = next_hop;
      med = s.med;
      atomic = s.atomic;
      aggregator = s.aggregator;
      communities = s.communities;
      communities_partial = s.communities_partial;
      unknown = by_type s.unknown;
    }) s.next_hop) (said_path s)) s.origin

-- attributes are there only where a prefix is announced
abbrev pub attrs_for : Said → List Prefix → Option Attrs
attrs_for s [] = None
attrs_for s (p ∷ ps) = said_attrs s

-- the list has the prefix
abbrev pub lists : List Prefix → Prefix → Bool
lists ps p = list_any (eq_by_cmp prefix_cmp p) ps

-- the update of a message's parts
abbrev pub update_of : Parts → Update
update_of parts = record {
  withdrawn = filter (λ p. not (lists parts.announced p)) (ordered prefix_cmp parts.withdrawn);
  attrs = attrs_for (said parts.attributes) parts.announced;
  announced = ordered prefix_cmp parts.announced;
}

-- the update of what was read
abbrev pub update_read : Result Parts Fault → Result Update Fault
update_read (Ok parts) = Ok (update_of parts)
update_read (Err fault) = Err fault

-- The update that a message spells, or the first fault of it. That it agrees with what messages spell and by what they
-- fail is a law of the codec.
unfoldable pub decoded : List ℕ → Result Update Fault
decoded b = update_read (read_message b)
