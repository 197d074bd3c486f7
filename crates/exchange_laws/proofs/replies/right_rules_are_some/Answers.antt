use Rattle.exchange_laws.proofs.Built.{right_rules_are_some}
use Rattle.exchange_laws.proofs.replies.right_rules_are_some.Goals as goal

pub returns : goal.returns
returns c = right_rules_are_some
