-- The entries of a map's parts, and what holds of the parts.
use Rattle.std.specs.Prelude.{List}
use Rattle.net_types.specs.declared.prefix.Prefix.{Prefix}
use Rattle.prefix_map.specs.Entries.{entries_of}
use Rattle.prefix_map.specs.Tables.{all_entries, IsTable}
use Rattle.prefix_map.specs.Tries.{IsTrie}
use Rattle.prefix_map.specs.declared.parts.Parts.{Parts}
use Rattle.prefix_map.specs.declared.parts.Parts.TheVariants.{One, Many}

-- those of the trie, or of the table
abbrev pub entries_in : {V : Type 0} → Parts V → List (Prefix × V)
entries_in (One trie) = entries_of trie
entries_in (Many table) = all_entries table.parts.items

-- a trie, or a table
abbrev pub AreParts : {V : Type 0} → Parts V → Type 0
AreParts (One trie) = IsTrie trie
AreParts (Many table) = IsTable table
