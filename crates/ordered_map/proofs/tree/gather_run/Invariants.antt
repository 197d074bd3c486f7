use Rattle.std.proofs.Common.{◌≡◌, ◌≤◌, ◌++◌, map, take}
use Rattle.std.specs.Vec.{vec_len}
use Rattle.std.specs.Map.Iter.{deref_pair}
use Rattle.ordered_map.proofs.tree.gather_run.Given as goal

abbrev pub invariant-loop-key : goal.invariant-loop-key
invariant-loop-key g l = (map deref_pair l.entries.items ≡ map deref_pair l.initial.entries.items ++ take l.key-index l.others) × (vec_len l.entries ≤ l.count)
