use Rattle.std.proofs.Common.{◌≡◌, filter, take}
use Rattle.std.specs.Prelude.{is_some}
use Rattle.std.specs.FinMap.{get}
use Rattle.route_server.proofs.down.prefixes_from.Given as goal

abbrev pub invariant-loop-prefix : goal.invariant-loop-prefix
invariant-loop-prefix l = l.prefixes.items ≡ filter (λ p. is_some (get l.server.routes (record { from = l.from; prefix = p }))) (take l.prefix-index l.prefix-items)
