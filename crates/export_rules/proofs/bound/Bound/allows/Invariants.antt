use Rattle.std.proofs.Common.{◌≡◌, drop}
use Rattle.net_types.specs.Exports.{allows}
use Rattle.export_rules.proofs.bound.Bound.allows.Given as goal

-- no rule so far applies, so the others decide
abbrev pub invariant-loop-rule : goal.invariant-loop-rule
invariant-loop-rule l = record { items : l.rule-items ≡ l.self; rest : allows (drop l.rule-index l.self) l.to l.prefix ≡ allows l.self l.to l.prefix }
