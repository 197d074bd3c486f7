use Rattle.exchange_laws.proofs.ToldAnew.{drains_are_accepted}
use Rattle.exchange_laws.proofs.telling.drains_are_accepted.Goals as goal

pub returns : goal.returns
returns c = drains_are_accepted
