-- What makes a tree of prefixes a trie.
use Rattle.std.specs.Prelude.{List, [], ◌∷◌}
use Rattle.net_types.specs.declared.prefix.Prefix.{Prefix}
use Rattle.prefix_map.specs.Entries.{entries_of}
use Rattle.prefix_map.specs.Halves.{LiesLow, LiesHigh}
use Rattle.prefix_map.specs.declared.trie.Trie.{Trie, Empty, Lone, Fork'}
use Rattle.prefix_map.specs.declared.trie.Node.{Node}

-- each prefix of the entries is of this kind
abbrev pub AllKeys : {V : Type 0} → (Prefix → Type 0) → List (Prefix × V) → Type 0
AllKeys P [] = Unit {0}
AllKeys P (e ∷ es) = P e.0 × AllKeys P es

-- the entries of each child lie in the half of their fork's prefix
abbrev pub IsTrie : {V : Type 0} → Trie V → Type 0
IsTrie Empty = Unit {0}
IsTrie (Lone at value) = Unit {0}
IsTrie (Fork' p at low high held) = AllKeys (LiesLow at) (entries_of low) × AllKeys (LiesHigh at) (entries_of high) × IsTrie low × IsTrie high

-- so do those of a fork with this node
abbrev pub IsNode : {V : Type 0} → Node V → Type 0
IsNode node = AllKeys (LiesLow node.at) (entries_of node.low) × AllKeys (LiesHigh node.at) (entries_of node.high) × IsTrie node.low × IsTrie node.high

-- a prefix without others
abbrev pub IsLone : {V : Type 0} → Trie V → Type 0
IsLone Empty = ⊥
IsLone (Lone at value) = Unit {0}
IsLone (Fork' p at low high held) = ⊥
