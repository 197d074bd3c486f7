use Rattle.std.proofs.Common.{◌≡◌, ◌++◌, map, take}
use Rattle.fast_path.specs.Pairs.{pair_at}
use Rattle.fast_path.proofs.pairs.push_pairs.Given as goal

-- the tag is at the ports so far
abbrev pub invariant-loop-port : goal.invariant-loop-port
invariant-loop-port l = l.pairs.items ≡ l.initial.pairs.items ++ map (pair_at l.tag) (take l.port-index l.ports)
