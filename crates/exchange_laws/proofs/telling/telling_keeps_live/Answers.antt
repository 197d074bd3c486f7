use Rattle.exchange_laws.proofs.ToldAnew.{telling_keeps_live}
use Rattle.exchange_laws.proofs.telling.telling_keeps_live.Goals as goal

pub returns : goal.returns
returns c = telling_keeps_live
