use Rattle.std.proofs.Common.{◌≡◌, drop}
use Rattle.registry.specs.Registered.{named}
use Rattle.net_types.specs.ExportTexts.{bound}
use Rattle.export_rules.proofs.Binding.{behind}
use Rattle.export_rules.proofs.parsed.Rules.bind.Given as goal

-- the rules so far are bound, and the others are still to be
abbrev pub invariant-loop-rule : goal.invariant-loop-rule
invariant-loop-rule l = record { items : l.rule-items ≡ l.self; rest : behind l.rules.items (bound (named l.names) (drop l.rule-index l.self)) ≡ bound (named l.names) l.self }
