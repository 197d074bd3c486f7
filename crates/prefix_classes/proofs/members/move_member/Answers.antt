use Rattle.std.proofs.Common.{arith}
use Rattle.prefix_classes.proofs.CountLemmas.{still_there, both_steps}
use Rattle.prefix_classes.proofs.members.move_member.Goals as goal

pub raise-requires-clause-there : goal.raise-requires-clause-there
raise-requires-clause-there c = still_there _ _ _ _ c.args.to c.requires.rising c.lower.ensures.counts c.requires.there

pub raise-requires-clause-small : goal.raise-requires-clause-small
raise-requires-clause-small c = let number = c.lower.ensures.counts.counts c.args.to in omega (arith, number, c.requires.small)

pub returns-clause-counts : goal.returns-clause-counts
returns-clause-counts c = both_steps _ _ _ _ _ c.lower.ensures.counts c.raise.ensures.counts
