-- Those so far and those among what is left are all.
use Rattle.std.proofs.Common.{◌≡◌, ◌++◌, List, filter, map}
use Rattle.std.specs.FinMap.{keys}
use Rattle.net_types.specs.declared.rule.Pair.{Pair}
use Rattle.net_types.specs.declared.rule.Rule.{Rule}
use Rattle.plan_cases.specs.Rebuilt.{is_from}
use Rattle.plan_cases.proofs.rebuilt.pairs_from.Given as goal

abbrev pub invariant-loop-pair : goal.invariant-loop-pair
invariant-loop-pair l = l.pairs.items ++ filter (is_from l.names l.who) (map (λ (e : Pair × List Rule). e.0) l.pair-iterator) ≡ filter (is_from l.names l.who) (keys l.switch.table)
