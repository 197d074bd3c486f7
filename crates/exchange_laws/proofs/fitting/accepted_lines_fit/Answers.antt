use Rattle.exchange_laws.proofs.FullTables.{accepted_lines_fit}
use Rattle.exchange_laws.proofs.fitting.accepted_lines_fit.Goals as goal

pub returns : goal.returns
returns c = accepted_lines_fit
