-- The law.
use Rattle.rule_laws.proofs.RightRules.{right_rules_are_some}
use Rattle.rule_laws.proofs.rules.right_rules_are_some.Goals as goal

pub returns : goal.returns
returns c = right_rules_are_some
