use Rattle.exchange_laws.proofs.Counted.{pairs_are_live}
use Rattle.exchange_laws.proofs.counts.pairs_are_live.Goals as goal

pub returns : goal.returns
returns c = pairs_are_live
