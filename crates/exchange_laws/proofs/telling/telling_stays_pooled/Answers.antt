use Rattle.exchange_laws.proofs.ToldAnew.{telling_stays_pooled}
use Rattle.exchange_laws.proofs.telling.telling_stays_pooled.Goals as goal

pub returns : goal.returns
returns c = telling_stays_pooled
