use Rattle.std.proofs.Common.{◌≡◌}
use Rattle.std.specs.FinMap.Entries.{find}
use Rattle.net_types.specs.Keys.{prefix_cmp}
use Rattle.prefix_map.specs.Entries.{entries_of}
use Rattle.prefix_map.specs.Tries.{IsTrie}
use Rattle.prefix_map.proofs.trie.value_of.Given as goal

abbrev pub invariant-loop-here : goal.invariant-loop-here
invariant-loop-here g l = IsTrie l.here × (find prefix_cmp l.key (entries_of l.trie) ≡ find prefix_cmp l.key (entries_of l.here))
