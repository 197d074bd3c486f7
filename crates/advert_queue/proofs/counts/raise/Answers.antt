use Rattle.advert_queue.proofs.CountLemmas.{raised}
use Rattle.advert_queue.proofs.counts.raise.Goals as goal

pub returns-clause-counts : goal.returns-clause-counts
returns-clause-counts c = raised c.args.side c.args.tag _ _ c.requires.used c.change_or_put.ensures.rising c.requires.small _ c.one_use.ensures c.change_or_put.ensures.items
