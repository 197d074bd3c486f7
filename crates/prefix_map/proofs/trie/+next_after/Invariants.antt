use Rattle.prefix_map.proofs.Sizes.{size_of}
use Rattle.prefix_map.proofs.trie.+next_after.Given as goal

abbrev pub decreases-next_after : goal.decreases-next_after
decreases-next_after g l = size_of l.trie.now
