use Rattle.exchange_laws.proofs.ToldAnew.{gone_pairs_were_told}
use Rattle.exchange_laws.proofs.telling.gone_pairs_were_told.Goals as goal

pub returns : goal.returns
returns c = gone_pairs_were_told
