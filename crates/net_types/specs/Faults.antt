-- How faults of UPDATE messages are told.
use Rattle.std.specs.Prelude.{ℕ, List, codes, Option, Some, None}
use Rattle.net_types.specs.declared.update.Fault.{Fault}
use Rattle.net_types.specs.declared.update.Fault.TheVariants as faults

-- the word that a reply has (this exchange's own)
abbrev pub fault_word : Fault → List ℕ
fault_word faults.NotUpdate = codes "not-update"
fault_word faults.BadHeader = codes "bad-header"
fault_word faults.Malformed = codes "malformed"
fault_word faults.UnknownWellKnown = codes "unknown-attribute"
fault_word faults.MissingWellKnown = codes "missing-attribute"
fault_word faults.Flags = codes "flags"
fault_word faults.Length = codes "length"
fault_word faults.Origin = codes "origin"
fault_word faults.NextHopSyntax = codes "next-hop-syntax"
fault_word faults.Network = codes "network"
fault_word faults.AsPath = codes "as-path"

-- the error subcode of a fault of an UPDATE message (RFC 4271 4.5, 6.3); what is wrong with the header has none of its own
abbrev pub fault_subcode : Fault → Option ℕ
fault_subcode faults.NotUpdate = None
fault_subcode faults.BadHeader = None
fault_subcode faults.Malformed = Some 1
fault_subcode faults.UnknownWellKnown = Some 2
fault_subcode faults.MissingWellKnown = Some 3
fault_subcode faults.Flags = Some 4
fault_subcode faults.Length = Some 5
fault_subcode faults.Origin = Some 6
fault_subcode faults.NextHopSyntax = Some 8
fault_subcode faults.Network = Some 10
fault_subcode faults.AsPath = Some 11

-- the error code: 1 for what is wrong with the header, 3 for what is wrong with the message (RFC 4271 4.5)
abbrev pub fault_code : Fault → ℕ
fault_code faults.NotUpdate = 1
fault_code faults.BadHeader = 1
fault_code faults.Malformed = 3
fault_code faults.UnknownWellKnown = 3
fault_code faults.MissingWellKnown = 3
fault_code faults.Flags = 3
fault_code faults.Length = 3
fault_code faults.Origin = 3
fault_code faults.NextHopSyntax = 3
fault_code faults.Network = 3
fault_code faults.AsPath = 3
