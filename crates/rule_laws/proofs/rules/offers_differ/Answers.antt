-- The law.
use Rattle.rule_laws.proofs.RightRules.{offers_differ}
use Rattle.rule_laws.proofs.rules.offers_differ.Goals as goal

pub returns : goal.returns
returns c = offers_differ
