use Rattle.prefix_classes.proofs.CountLemmas.{lowered}
use Rattle.prefix_classes.proofs.members.lower.Goals as goal

pub returns-clause-counts : goal.returns-clause-counts
returns-clause-counts c = lowered c.args.tag _ _ c.requires.rising c.recount.ensures.rising c.recount.ensures.items c.requires.some
