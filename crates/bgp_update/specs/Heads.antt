-- What stands in front of the announced prefixes, read in three parts.
use Rattle.std.specs.Prelude.{ℕ, ◌+◌, ◌&&◌, ◌==◌, nat_le, List}
use Rattle.std.specs.List.{list_all}
use Rattle.grammar.specs.FormatReading.{Reader, ◌>>=◌, ◌>>◌, pure, read_ensure, read_octet, read_octets, read_two_octets}
use Rattle.net_types.specs.UpdateFormat.{Head}
use Rattle.net_types.specs.UpdateReading.{read_attributes, read_prefixes, within}
use Rattle.net_types.specs.declared.update.Fault.{Fault}
use Rattle.net_types.specs.declared.update.Fault.TheVariants as faults

-- the length of a message of n octets, from its marker, length and type
unfoldable pub read_opening : ℕ → Reader Fault ℕ
read_opening n = do
  marker ← read_octets 16 faults.BadHeader
  read_ensure (list_all (λ c. c == 255) marker) faults.BadHeader
  len ← read_two_octets faults.BadHeader
  read_ensure (nat_le 19 len && (nat_le len 4096 && len == n)) faults.BadHeader
  type ← read_octet faults.BadHeader
  read_ensure (type == 2) faults.NotUpdate
  read_ensure (nat_le 23 len) faults.BadHeader
  pure len

-- the octets of the withdrawn prefixes and how many octets the attributes take, in a message of this length
unfoldable pub read_lengths : ℕ → Reader Fault (List ℕ × ℕ)
read_lengths len = do
  withdrawn_len ← read_two_octets faults.Malformed
  read_ensure (nat_le (withdrawn_len + 23) len) faults.Malformed
  withdrawn ← read_octets withdrawn_len faults.Malformed
  attributes_len ← read_two_octets faults.Malformed
  read_ensure (nat_le (withdrawn_len + attributes_len + 23) len) faults.Malformed
  pure (withdrawn, attributes_len)

-- the parts one after another
unfoldable pub read_parts : ℕ → Reader Fault Head
read_parts n = do
  len ← read_opening n
  blocks ← read_lengths len
  prefixes ← within (read_prefixes blocks.0)
  attributes ← read_octets blocks.1 faults.Malformed
  all ← within (read_attributes attributes)
  pure (record { withdrawn = prefixes; attributes = all })
