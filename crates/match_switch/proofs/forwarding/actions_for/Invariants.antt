-- The first rule that has the headers is still to come.
use Rattle.std.proofs.Common.{◌≡◌, drop}
use Rattle.events.specs.Table.{first_rule}
use Rattle.match_switch.proofs.forwarding.actions_for.Given as goal

abbrev pub invariant-loop-rule : goal.invariant-loop-rule
invariant-loop-rule l = first_rule (drop l.rule-index l.rules) l.fields ≡ first_rule l.rules l.fields
