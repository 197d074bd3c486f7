-- One more item is taken.
use Rattle.classifier.specs.Items.{Item}
use Rattle.block_build.specs.Rules.{action_at}
use Rattle.block_build.proofs.LoopLemmas.{one_taken_at}
use Rattle.block_build.proofs.actions.actions_in.Goals as goal

pub loop-pair-preserved : goal.loop-pair-preserved
loop-pair-preserved c = one_taken_at (λ (i : Item). action_at i.0 i.1) _ _ _ _ _ _ c.loop-pair-test.true c.loop-pair.invariant c.in_ok-push_action.ensures
