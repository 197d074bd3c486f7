-- One more line is a rule.
use Rattle.block_build.specs.Rules.{rule_of}
use Rattle.block_build.proofs.LoopLemmas.{one_made}
use Rattle.block_build.proofs.actions.rules_of.Goals as goal

pub loop-x-preserved : goal.loop-x-preserved
loop-x-preserved c = one_made rule_of _ _ _ _ c.loop-x.invariant c.in_ok-push_rule.ensures
