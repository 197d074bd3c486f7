use Rattle.exchange_laws.proofs.ToldAnew.{telling_stays_kept}
use Rattle.exchange_laws.proofs.telling.telling_stays_kept.Goals as goal

pub returns : goal.returns
returns c = telling_stays_kept
