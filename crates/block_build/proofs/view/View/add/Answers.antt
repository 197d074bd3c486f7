-- The classifier that is added gives something to all headers.
use Rattle.classifier.specs.Classifiers.{lines_of}
use Rattle.block_build.proofs.ViewLemmas.{total_push}
use Rattle.block_build.proofs.view.View.add.Goals as goal

pub invariant_of-self-2 : goal.invariant_of-self-2
invariant_of-self-2 c =
    total_push (lines_of c.self.inside.outbound.now) c.self.inside.inbounds.items c.push.new.self.items _ c.in_ok-push.ensures.items c.self.invariant c.args.inbound.now.total
