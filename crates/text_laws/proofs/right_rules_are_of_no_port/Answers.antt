use Rattle.text_laws.proofs.Portless.{right_rules_are_of_no_port}
use Rattle.text_laws.proofs.right_rules_are_of_no_port.Goals as goal

pub returns : goal.returns
returns c = right_rules_are_of_no_port
