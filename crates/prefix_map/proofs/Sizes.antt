-- How many forks a trie has.
use Rattle.std.specs.Prelude.{ℕ, ◌+◌}
use Rattle.prefix_map.specs.declared.trie.Trie.{Trie, Empty, Lone, Fork'}

abbrev pub size_of : {V : Type 0} → Trie V → ℕ
size_of Empty = 0
size_of (Lone at value) = 0
size_of (Fork' p at low high held) = size_of low + size_of high + 1
