use Rattle.text_laws.proofs.LegalRules.{legal_rules_are_of_no_port}
use Rattle.text_laws.proofs.legal_rules_are_of_no_port.Goals as goal

pub returns : goal.returns
returns c = legal_rules_are_of_no_port
