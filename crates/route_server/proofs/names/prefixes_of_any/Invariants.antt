use Rattle.std.proofs.Common.{◌≡◌, filter, take}
use Rattle.std.specs.Prelude.{is_some}
use Rattle.std.specs.List.{list_any}
use Rattle.std.specs.FinMap.{get}
use Rattle.net_types.specs.declared.address.Pid.{Pid}
use Rattle.route_server.proofs.names.prefixes_of_any.Given as goal

abbrev pub invariant-loop-prefix : goal.invariant-loop-prefix
invariant-loop-prefix l = l.prefixes.items ≡ filter (λ p. list_any (λ (from : Pid). is_some (get l.server.routes (record { from = from; prefix = p }))) l.froms) (take l.prefix-index l.prefix-items)
