use Rattle.exchange_laws.proofs.AcceptedChanges.{exports_reroute}
use Rattle.exchange_laws.proofs.reroutings.exports_reroute.Goals as goal

pub returns : goal.returns
returns c = exports_reroute
