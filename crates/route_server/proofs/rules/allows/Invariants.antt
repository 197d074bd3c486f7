use Rattle.std.proofs.Common.{◌≡◌, drop}
use Rattle.net_types.specs.Exports.{allows}
use Rattle.route_server.proofs.rules.allows.Given as goal

abbrev pub invariant-loop-rule : goal.invariant-loop-rule
invariant-loop-rule l = allows (drop l.rule-index l.rules) l.to l.prefix ≡ allows l.rules l.to l.prefix
