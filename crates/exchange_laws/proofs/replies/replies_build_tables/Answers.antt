use Rattle.exchange_laws.proofs.Flows.{replies_build_tables}
use Rattle.exchange_laws.proofs.replies.replies_build_tables.Goals as goal

pub returns : goal.returns
returns c = replies_build_tables
