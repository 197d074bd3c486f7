use Rattle.advert_queue.proofs.CountLemmas.{lowered}
use Rattle.advert_queue.proofs.counts.lower.Goals as goal

pub returns-clause-counts : goal.returns-clause-counts
returns-clause-counts c = lowered c.args.side c.args.tag _ _ c.requires.used c.change_or_remove.ensures.rising c.requires.some c.change_or_remove.ensures.items
