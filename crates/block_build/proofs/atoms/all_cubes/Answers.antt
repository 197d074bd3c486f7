-- The cubes of one more receiver's rules.
use Rattle.classifier.specs.Meaning.{cubes_of}
use Rattle.block_build.proofs.LoopLemmas.{one_taken}
use Rattle.block_build.specs.declared.receive.Receiver.{Receiver}
use Rattle.block_build.proofs.atoms.all_cubes.Goals as goal

pub loop-receiver-preserved : goal.loop-receiver-preserved
loop-receiver-preserved c =
    one_taken (λ (r : Receiver). cubes_of r.lines) _ _ _ _ _ _ c.loop-receiver-test.true c.receiver-item.is c.loop-receiver.invariant c.in_ok-push_cubes.ensures
