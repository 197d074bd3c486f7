use Rattle.std.proofs.Common.{◌≡◌}
use Rattle.std.specs.Option.{option_map}
use Rattle.prefix_map.specs.Entries.{entries_of, seen_entry, longest_entry}
use Rattle.prefix_map.specs.Tries.{IsTrie}
use Rattle.prefix_map.proofs.LongestLemmas.{or_best}
use Rattle.prefix_map.proofs.trie.longest_in.Given as goal

abbrev pub invariant-loop-here : goal.invariant-loop-here
invariant-loop-here g l = IsTrie l.here × (longest_entry (entries_of l.trie) l.ip ≡ or_best (longest_entry (entries_of l.here) l.ip) (option_map seen_entry l.best))
