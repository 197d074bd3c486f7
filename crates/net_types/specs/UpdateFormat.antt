-- UPDATE messages, check by check (RFC 4271 4.1, 4.3, 6.1, 6.3; RFC 6793 3). The first line that fails gives the fault.
use Rattle.std.specs.Prelude.{◌≡◌, IsTrue, ℕ, ◌+◌, ◌*◌, ◌/◌, ◌%◌, ◌<◌, Bool, true, false, not, ◌&&◌, ◌||◌, ◌==◌, ◌⊎◌, nat_le, nat_lt, List, [], ◌∷◌, ◌++◌, length, take, drop, slice_index, Option, Some, None, is_some, if◌then◌else◌}
use Rattle.std.specs.List.{list_all}
use Rattle.grammar.specs.Formats.{Format, pure, octet, octets, ensure, ◌>>=◌, ◌>>◌, block, items, to_end, ItemsSpell, ItemsFail}
use Rattle.grammar.specs.Numbers.{big_endian, two_octets}
use Rattle.net_types.specs.Bits.{same_bits}
use Rattle.net_types.specs.AttributeTypes.{type_of, type_flags, type_length, has_length}
use Rattle.net_types.specs.declared.address.Ip.{Ip}
use Rattle.net_types.specs.declared.attribute.Attribute.{Attribute}
use Rattle.net_types.specs.declared.attribute.Attribute.TheVariants.{Origin, AsPath, NextHop, MultiExitDisc, LocalPref, AtomicAggregate, Communities, As4Path, Ignored}
use Rattle.net_types.specs.declared.attribute.Attribute.TheVariants as attributes
use Rattle.net_types.specs.declared.attribute.AttributeType.{AttributeType}
use Rattle.net_types.specs.declared.attribute.AttributeType.TheVariants as types
use Rattle.net_types.specs.declared.prefix.Prefix.{Prefix}
use Rattle.net_types.specs.declared.route.Segment.{Segment}
use Rattle.net_types.specs.declared.route.Segment.TheVariants.{Set, Sequence}
use Rattle.net_types.specs.declared.update.Fault.{Fault}
use Rattle.net_types.specs.declared.update.Fault.TheVariants as faults
use Rattle.net_types.specs.UpdateValue.{Said, said}

-- the number of four octets, of which those at the end may be missing
abbrev pub padded : List ℕ → ℕ
padded bits = big_endian (take 4 (bits ++ (0 ∷ 0 ∷ 0 ∷ 0 ∷ [])))

-- an address in four octets
abbrev pub address : List ℕ → Ip
address octets = record { 0 = big_endian octets }

-- no octet, which spells the prefix of the first n bits of an address; it has 32 bits at most
abbrev pub first_bits : ℕ → ℕ → Format Fault Prefix
first_bits n a = record { Spells = λ s p. (s ≡ []) × (p.len ≡ n) × IsTrue (same_bits n p.address.0 a); Fails = λ s e. (32 < n) × (e ≡ faults.Network) }

-- a length in bits, and the fewest octets that hold them; bits past the length are ignored
abbrev pub prefix : Format Fault Prefix
prefix = do
  len ← octet faults.Network
  bits ← octets ((len + 7) / 8) faults.Network
  first_bits len (padded bits)

-- the numbers in two octets each
abbrev pub words : List ℕ → List ℕ
words [] = []
words (a ∷ []) = []
words (a ∷ b ∷ s) = big_endian (a ∷ b ∷ []) ∷ words s

-- the numbers in four octets each
abbrev pub longs : List ℕ → List ℕ
longs [] = []
longs (a ∷ []) = []
longs (a ∷ b ∷ []) = []
longs (a ∷ b ∷ c ∷ []) = []
longs (a ∷ b ∷ c ∷ d ∷ s) = big_endian (a ∷ b ∷ c ∷ d ∷ []) ∷ longs s

-- type 1 is AS_SET and 2 is AS_SEQUENCE
abbrev pub segment_of : ℕ → List ℕ → Segment
segment_of kind asns = if kind == 1 then Set asns else Sequence asns

-- a segment of a path, with one AS at least, whose numbers have so many octets each
abbrev pub segment_by : ℕ → (List ℕ → List ℕ) → Format Fault Segment
segment_by size numbers = do
  kind ← octet faults.AsPath
  ensure (kind == 1 || kind == 2) faults.AsPath
  count ← octet faults.AsPath
  ensure (nat_le 1 count) faults.AsPath
  asns ← octets (count * size) faults.AsPath
  pure (segment_of kind (numbers asns))

-- a segment of AS_PATH: two octets a number
abbrev pub segment : Format Fault Segment
segment = segment_by 2 words

-- a segment of AS4_PATH: four octets a number (RFC 6793 3)
abbrev pub wide_segment : Format Fault Segment
wide_segment = segment_by 4 longs

-- what an AS4_PATH of these segments says: without one, nothing
abbrev pub wide_value : List Segment → Attribute
wide_value [] = Ignored 17
wide_value (s ∷ segments) = As4Path (s ∷ segments)

-- what the octets of an AS4_PATH say: where they are no segments, nothing (this exchange's own rule: it is no fault)
abbrev pub IsWide : List ℕ → Attribute → Type 0
IsWide inner a = ((segments : List Segment) × ItemsSpell wide_segment inner segments × (a ≡ wide_value segments)) ⊎ ((e : Fault) × ItemsFail wide_segment inner e × (a ≡ Ignored 17))

-- no more octets, where the block inner, which was taken before, is the value of an AS4_PATH; no octets fail
abbrev pub wide_path : List ℕ → Format Fault Attribute
wide_path inner = record { Spells = λ s a. (s ≡ []) × IsWide inner a; Fails = λ s e. ⊥ }

-- the flags 0x80, 0x40, 0x20 and 0x10
abbrev pub is_optional : ℕ → Bool
is_optional flags = flags / 128 % 2 == 1

-- the flag 0x40
abbrev pub is_transitive : ℕ → Bool
is_transitive flags = flags / 64 % 2 == 1

-- the flag 0x20
abbrev pub is_partial : ℕ → Bool
is_partial flags = flags / 32 % 2 == 1

-- the flag 0x10: the length takes two octets
abbrev pub is_long : ℕ → Bool
is_long flags = flags / 16 % 2 == 1

-- the optional and the transitive flag alone
abbrev pub upper_flags : ℕ → ℕ
upper_flags flags = flags / 64 % 4

-- the length of a value, in one octet or two
abbrev pub value_length : Bool → Format Fault ℕ
value_length true = two_octets faults.Malformed
value_length false = octet faults.Malformed

-- a value of a type in the table, with its length: check 10
abbrev pub known_value : AttributeType → Bool → List ℕ → Format Fault Attribute
known_value types.Origin partial inner = do
  ensure (nat_le (big_endian inner) 2) faults.Origin
  pure (Origin (big_endian inner))
known_value types.AsPath partial inner = do
  segments ← items segment inner
  pure (AsPath segments)
known_value types.NextHop partial inner = do
  ensure (nat_le 1 (slice_index inner 0) && nat_lt (slice_index inner 0) 224) faults.NextHopSyntax
  pure (NextHop (address inner))
known_value types.MultiExitDisc partial inner = pure (MultiExitDisc (big_endian inner))
known_value types.LocalPref partial inner = pure LocalPref
known_value types.AtomicAggregate partial inner = pure AtomicAggregate
known_value types.Aggregator partial inner = pure (attributes.Aggregator (record { partial = partial; asn = big_endian (take 2 inner); ip = address (drop 2 inner) }))
known_value types.Communities partial inner = pure (Communities partial (longs inner))
known_value types.As4Path partial inner = wide_path inner

-- a value of another type: it is passed on where it is transitive
abbrev pub unknown_value : Bool → ℕ → List ℕ → Attribute
unknown_value true number inner = attributes.Unknown (record { kind = number; value = inner })
unknown_value false number inner = Ignored number

-- a value: checks 7, 8 and 9, and then 10
abbrev pub value : Option AttributeType → ℕ → ℕ → List ℕ → Format Fault Attribute
value None number flags inner = do
  ensure (is_optional flags) faults.UnknownWellKnown
  pure (unknown_value (is_transitive flags) number inner)
value (Some type) number flags inner = do
  ensure (upper_flags flags == upper_flags (type_flags type)) faults.Flags
  ensure (has_length (type_length type) (length inner)) faults.Length
  known_value type (is_partial flags) inner

-- an attribute, of a type that isn't among those that have come: check 6, and then its value
abbrev pub attribute : (ℕ → Bool) → Format Fault Attribute
attribute seen = do
  flags ← octet faults.Malformed
  number ← octet faults.Malformed
  len ← value_length (is_long flags)
  inner ← octets len faults.Malformed
  ensure (not (seen number)) faults.Malformed
  value (type_of number) number flags inner

-- the type of an attribute
abbrev pub number_of : Attribute → ℕ
number_of (Origin n) = 1
number_of (AsPath segments) = 2
number_of (NextHop ip) = 3
number_of (MultiExitDisc n) = 4
number_of LocalPref = 5
number_of AtomicAggregate = 6
number_of (attributes.Aggregator a) = 7
number_of (Communities partial ns) = 8
number_of (As4Path segments) = 17
number_of (attributes.Unknown u) = u.kind
number_of (Ignored number) = number

-- no type has come
abbrev pub no_types : ℕ → Bool
no_types number = false

-- the types that have come, with that of one attribute more
abbrev pub with_type : (ℕ → Bool) → Attribute → (ℕ → Bool)
with_type seen a = λ number. (number == number_of a) || seen number

-- what stands in front of the announced prefixes
pub record Head : Type 0 where
  pub withdrawn : List Prefix
  pub attributes : List Attribute

-- the parts of a message, in their order
pub record Parts : Type 0 where
  pub withdrawn : List Prefix
  pub attributes : List Attribute
  pub announced : List Prefix

-- the header and the lengths, checks 1 to 4, and then withdrawn prefixes and attributes, checks 5 to 10, of a message of n octets
abbrev pub head : ℕ → Format Fault Head
head n = do
  marker ← octets 16 faults.BadHeader
  ensure (list_all (λ c. c == 255) marker) faults.BadHeader
  len ← two_octets faults.BadHeader
  ensure (nat_le 19 len && (nat_le len 4096 && len == n)) faults.BadHeader
  type ← octet faults.BadHeader
  ensure (type == 2) faults.NotUpdate
  ensure (nat_le 23 len) faults.BadHeader
  withdrawn_len ← two_octets faults.Malformed
  ensure (nat_le (withdrawn_len + 23) len) faults.Malformed
  withdrawn ← octets withdrawn_len faults.Malformed
  attributes_len ← two_octets faults.Malformed
  ensure (nat_le (withdrawn_len + attributes_len + 23) len) faults.Malformed
  prefixes ← items prefix withdrawn
  attributes ← octets attributes_len faults.Malformed
  all ← block attribute with_type no_types attributes
  pure (record { withdrawn = prefixes; attributes = all })

-- where a prefix is announced, ORIGIN, AS_PATH and NEXT_HOP are there
abbrev pub is_complete : Said → List Prefix → Bool
is_complete s [] = true
is_complete s (p ∷ ps) = is_some s.origin && (is_some s.path && is_some s.next_hop)

-- a whole message of n octets: the announced prefixes, check 11, stand last, and check 12 looks at all
abbrev pub message : ℕ → Format Fault Parts
message n = to_end (head n) prefix (λ h ps. is_complete (said h.attributes) ps) faults.MissingWellKnown
    (λ h ps. record { withdrawn = h.withdrawn; attributes = h.attributes; announced = ps })
