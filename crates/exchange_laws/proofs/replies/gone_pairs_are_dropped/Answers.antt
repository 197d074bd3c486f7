use Rattle.exchange_laws.proofs.ListedPairs.{gone_are_dropped}
use Rattle.exchange_laws.proofs.replies.gone_pairs_are_dropped.Goals as goal

pub returns : goal.returns
returns c = gone_are_dropped
