use Rattle.prefix_map.proofs.Sizes.{size_of}
use Rattle.prefix_map.proofs.change.+put_in.Given as goal

abbrev pub decreases-put_in : goal.decreases-put_in
decreases-put_in g l = size_of l.trie.now
