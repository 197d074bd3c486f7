use Rattle.route_server.proofs.NameLaws.{signature_trimmed}
use Rattle.route_server.proofs.laws.trimmed_signatures_are_those.Goals as goal

pub returns-clause-signatures : goal.returns-clause-signatures
returns-clause-signatures c = signature_trimmed
