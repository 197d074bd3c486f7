-- The rules at a place are the same.
use Rattle.std.proofs.Common.{arith, sym, ◌∙◌}
use Rattle.events.specs.Sound.{same_rule}
use Rattle.block_build.proofs.LoopLemmas.{pair_agrees}
use Rattle.block_build.proofs.same.same_rules.Goals as goal

pub loop-i-preserved : goal.loop-i-preserved
loop-i-preserved c = record {
  left =
      pair_agrees same_rule _ _ _ _ _ c.loop-i-test.true (omega (arith, c.loop-i-test.true, c.loop-i.invariant.long)) c.index-one-i.is c.index-other-i.is (sym c.same_rule.ensures ∙ c.if-not-same_rule.false)
      ∙ c.loop-i.invariant.left;
  long = c.loop-i.invariant.long;
}
