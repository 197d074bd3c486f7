use Rattle.std.proofs.Common.{sym, ◌∙◌, arith}
use Rattle.prefix_classes.proofs.RankLemmas.{first_ends, second_ends}
use Rattle.prefix_classes.proofs.placed.rank_items.Goals as goal

pub returns-then-i-other : goal.returns-then-i-other
returns-then-i-other g c = sym (second_ends g.T.Ranked.order c.args.one.now c.args.other.now c.loop-i.i c.loop-i-test.true c.if-i-other.true) ∙ c.loop-i.invariant.left

pub returns-then-one-other : goal.returns-then-one-other
returns-then-one-other g c = sym (first_ends g.T.Ranked.order c.args.one.now c.args.other.now c.loop-i.i c.if-one-other.true (omega arith)) ∙ c.loop-i.invariant.left
