-- The pairs so far.
use Rattle.std.proofs.Common.{◌≡◌, map, take}
use Rattle.std.specs.Map.Iter.{deref_pair}
use Rattle.net_types.specs.declared.rule.Pair.{Pair}
use Rattle.net_types.specs.declared.rule.Rule.{Rule}
use Rattle.std.specs.Prelude.{List}
use Rattle.recompile.proofs.swap.Built.pairs.Given as goal

abbrev pub invariant-loop-pair : goal.invariant-loop-pair
invariant-loop-pair l = l.pairs.items ≡ map (λ (e : Pair × List Rule). e.0) (map deref_pair (take l.pair-index l.pair-items))
