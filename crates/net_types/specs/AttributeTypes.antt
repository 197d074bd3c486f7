-- The table of the attributes that the exchange knows (RFC 4271 4.3, 5; RFC 1997; RFC 6793 3).
use Rattle.std.specs.Prelude.{ℕ, ◌%◌, Bool, true, ◌==◌, Option, Some, None, if◌then◌else◌}
use Rattle.net_types.specs.declared.attribute.AttributeType.{AttributeType}
use Rattle.net_types.specs.declared.attribute.AttributeType.TheVariants as types
use Rattle.net_types.specs.declared.attribute.ValueLength.{ValueLength}
use Rattle.net_types.specs.declared.attribute.ValueLength.TheVariants.{Any, Exactly, MultipleOfFour}

-- the number of a type
abbrev pub type_number : AttributeType → ℕ
type_number types.Origin = 1
type_number types.AsPath = 2
type_number types.NextHop = 3
type_number types.MultiExitDisc = 4
type_number types.LocalPref = 5
type_number types.AtomicAggregate = 6
type_number types.Aggregator = 7
type_number types.Communities = 8
type_number types.As4Path = 17

-- the type of a number; all but 1 to 8 and 17 are unknown
abbrev pub type_of : ℕ → Option AttributeType
type_of n =
    if n == 1 then Some types.Origin else if n == 2 then Some types.AsPath else if n == 3 then Some types.NextHop else if n == 4 then Some types.MultiExitDisc
    else if n == 5 then Some types.LocalPref else if n == 6 then Some types.AtomicAggregate else if n == 7 then Some types.Aggregator else if n == 8 then Some types.Communities
    else if n == 17 then Some types.As4Path else None

-- the flags with which an attribute is written: 128 is optional, 64 transitive
abbrev pub type_flags : AttributeType → ℕ
type_flags types.Origin = 64
type_flags types.AsPath = 64
type_flags types.NextHop = 64
type_flags types.MultiExitDisc = 128
type_flags types.LocalPref = 64
type_flags types.AtomicAggregate = 64
type_flags types.Aggregator = 192
type_flags types.Communities = 192
type_flags types.As4Path = 192

-- which lengths the value of a type may have
abbrev pub type_length : AttributeType → ValueLength
type_length types.Origin = Exactly 1
type_length types.AsPath = Any
type_length types.NextHop = Exactly 4
type_length types.MultiExitDisc = Exactly 4
type_length types.LocalPref = Exactly 4
type_length types.AtomicAggregate = Exactly 0
type_length types.Aggregator = Exactly 6
type_length types.Communities = MultipleOfFour
type_length types.As4Path = Any

-- a value may have n octets
abbrev pub has_length : ValueLength → ℕ → Bool
has_length Any n = true
has_length (Exactly m) n = n == m
has_length MultipleOfFour n = n % 4 == 0
