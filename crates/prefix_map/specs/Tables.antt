-- The entries of a table of tries, and where they stand in it.
use Rattle.std.specs.Prelude.{◌≡◌, ℕ, suc, ◌/◌, ◌<◌, true, false, List, [], ◌∷◌, ◌++◌, length, slice_index_or}
use Rattle.std.specs.FinMap.Entries.{put}
use Rattle.net_types.specs.Keys.{prefix_cmp}
use Rattle.net_types.specs.Prefixes.{covers}
use Rattle.net_types.specs.declared.address.Ip.{Ip}
use Rattle.net_types.specs.declared.prefix.Prefix.{Prefix}
use Rattle.prefix_map.specs.Entries.{entries_of}
use Rattle.prefix_map.specs.Tries.{AllKeys, IsTrie}
use Rattle.prefix_map.specs.declared.table.Table.{Table}
use Rattle.prefix_map.specs.declared.trie.Trie.{Trie}

-- those of tries that follow one another
abbrev pub all_entries : {V : Type 0} → List (Trie V) → List (Prefix × V)
all_entries [] = []
all_entries (t ∷ ts) = entries_of t ++ all_entries ts

-- the first 16 bits of an address
abbrev pub number_of : Ip → ℕ
number_of ip = ip.0 / 65536

-- the addresses of each trie's prefixes begin with its number; the first trie has this one
abbrev pub AreNumbered : {V : Type 0} → ℕ → List (Trie V) → Type 0
AreNumbered n [] = Unit {0}
AreNumbered n (t ∷ ts) = IsTrie t × AllKeys (λ p. number_of p.address ≡ n) (entries_of t) × AreNumbered (suc n) ts

-- there is a trie for each number, and a mark at each length that a prefix has
pub record IsTable {V : Type 0} (table : Table V) : Type 0 where
  pub numbered : AreNumbered 0 table.parts.items
  pub whole : length table.parts.items ≡ 65536
  pub lengths : length table.lengths ≡ 33
  pub marked : AllKeys (λ p. slice_index_or table.lengths p.len false ≡ true) (all_entries table.parts.items)

-- the prefixes that cover an address are shorter than this
abbrev pub AreShort : {V : Type 0} → ℕ → Ip → List (Prefix × V) → Type 0
AreShort n ip es = AllKeys (λ p. covers p ip ≡ true → p.len < n) es

-- the entries after each of others was put among them
abbrev pub puts : {V : Type 0} → List (Prefix × V) → List (Prefix × V) → List (Prefix × V)
puts [] es = es
puts (d ∷ ds) es = puts ds (put prefix_cmp d.0 d.1 es)
