use Rattle.std.proofs.Common.{◌≡◌, ◌++◌, drop, filter}
use Rattle.std.specs.FinMap.{keys}
use Rattle.net_types.specs.Sets.{union_over}
use Rattle.exchange_core.specs.Rebuilt.{is_at}
use Rattle.exchange_core.proofs.rebuilt.pairs_from.Given as goal

-- with those of the other ports they are all
abbrev pub invariant-loop-port : goal.invariant-loop-port
invariant-loop-port l =
    l.pairs.items ++ union_over (λ port. filter (is_at port) (keys l.switch.table)) (drop l.port-index l.ports) ≡ union_over (λ port. filter (is_at port) (keys l.switch.table)) l.ports
