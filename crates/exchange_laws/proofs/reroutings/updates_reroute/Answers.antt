use Rattle.exchange_laws.proofs.AcceptedChanges.{updates_reroute}
use Rattle.exchange_laws.proofs.reroutings.updates_reroute.Goals as goal

pub returns : goal.returns
returns c = updates_reroute
