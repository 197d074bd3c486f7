use Rattle.std.proofs.Common.{◌≡◌, ◌++◌, List, map}
use Rattle.std.specs.FinMap.{keys}
use Rattle.fast_path.specs.Pairs.{staying}
use Rattle.net_types.specs.declared.rule.Pair.{Pair}
use Rattle.net_types.specs.declared.rule.Rule.{Rule}
use Rattle.exchange_core.proofs.telling.pairs_beside.Given as goal

-- those so far and those among what is left are all
abbrev pub invariant-loop-pair : goal.invariant-loop-pair
invariant-loop-pair l = l.pairs.items ++ staying l.gone (map (λ (e : Pair × List Rule). e.0) l.pair-iterator) ≡ staying l.gone (keys l.switch.table)
