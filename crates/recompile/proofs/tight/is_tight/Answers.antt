-- Where no later rule lies within the next one, the others tell; where one does, they aren't tight.
use Rattle.std.proofs.Common.{true, false, sym, ◌∙◌}
use Rattle.recompile.proofs.TightRules.{later_is, tells_none, tells_on}
use Rattle.recompile.proofs.tight.is_tight.Goals as goal

pub loop-i-preserved : goal.loop-i-preserved
loop-i-preserved c = tells_on c.args.rules.now c.loop-i.i c.index-rules-i.result c.loop-i-test.true c.index-rules-i.is (later_is c.args.rules.now c.loop-i.i c.index-rules-i.result c.loop-i-test.true c.index-rules-i.is false (sym c.has_within.ensures ∙ c.if-has_within.false)) c.loop-i.invariant

pub returns-then-has_within-clause-no : goal.returns-then-has_within-clause-no
returns-then-has_within-clause-no c = λ no. tells_none c.args.rules.now c.loop-i.i c.index-rules-i.result c.loop-i-test.true c.index-rules-i.is (later_is c.args.rules.now c.loop-i.i c.index-rules-i.result c.loop-i-test.true c.index-rules-i.is true (sym c.has_within.ensures ∙ c.if-has_within.true)) c.loop-i.invariant
