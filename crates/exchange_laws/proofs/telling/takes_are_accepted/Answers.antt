use Rattle.exchange_laws.proofs.ToldAnew.{takes_are_accepted}
use Rattle.exchange_laws.proofs.telling.takes_are_accepted.Goals as goal

pub returns : goal.returns
returns c = takes_are_accepted
