use Rattle.exchange_laws.proofs.FullTables.{full_tables_are_refused}
use Rattle.exchange_laws.proofs.fitting.full_tables_are_refused.Goals as goal

pub returns : goal.returns
returns c = full_tables_are_refused
