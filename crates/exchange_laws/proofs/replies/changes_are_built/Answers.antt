use Rattle.exchange_laws.proofs.Built.{changes_are_built}
use Rattle.exchange_laws.proofs.replies.changes_are_built.Goals as goal

pub returns : goal.returns
returns c = changes_are_built
