use Rattle.prefix_classes.proofs.CountLemmas.{raised}
use Rattle.prefix_classes.proofs.members.raise.Goals as goal

pub returns-clause-counts : goal.returns-clause-counts
returns-clause-counts c = raised c.args.tag _ _ c.requires.rising c.recount.ensures.rising c.recount.ensures.items c.requires.there c.requires.small
