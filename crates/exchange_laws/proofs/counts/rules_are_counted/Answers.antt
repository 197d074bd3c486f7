use Rattle.exchange_laws.proofs.Counted.{rules_are_counted}
use Rattle.exchange_laws.proofs.counts.rules_are_counted.Goals as goal

pub returns : goal.returns
returns c = rules_are_counted
