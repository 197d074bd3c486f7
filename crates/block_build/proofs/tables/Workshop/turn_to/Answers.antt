-- Where the cells stay, each of either stands among the others.
use Rattle.std.proofs.Common.{sym, subst}
use Rattle.net_types.specs.Sets.{Member}
use Rattle.block_build.proofs.tables.Workshop.turn_to.Goals as goal

pub returns-then-are_among-2-clause-all : goal.returns-then-are_among-2-clause-all
returns-then-are_among-2-clause-all c = λ x k. c.are_among.ensures c.if-are_among.true x (subst (Member x) (sym c.cubes.ensures.value) k)

pub returns-then-are_among-2-clause-no_more : goal.returns-then-are_among-2-clause-no_more
returns-then-are_among-2-clause-no_more c = λ x k. c.are_among-then-are_among.ensures c.if-are_among-2.true x (subst (Member x) (sym c.cubes-then-are_among.ensures.value) k)
