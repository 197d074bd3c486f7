use Rattle.exchange_laws.proofs.AcceptedChanges.{downs_reroute}
use Rattle.exchange_laws.proofs.reroutings.downs_reroute.Goals as goal

pub returns : goal.returns
returns c = downs_reroute
