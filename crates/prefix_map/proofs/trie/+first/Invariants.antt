use Rattle.prefix_map.proofs.Sizes.{size_of}
use Rattle.prefix_map.proofs.trie.+first.Given as goal

abbrev pub decreases-first : goal.decreases-first
decreases-first g l = size_of l.trie.now
