-- What the receiver makes is new.
use Rattle.classifier.specs.Items.{AreNew}
use Rattle.block_build.proofs.TakenLemmas.{held-of}
use Rattle.block_build.proofs.rows.push_beside.Goals as goal

pub push_made-requires-clause-new : goal.push_made-requires-clause-new
push_made-requires-clause-new c =
    held-of (AreNew c.args.row.now.items) c.args.cell.now c.args.receiver.now.lines (λ y k. elim k [ ]) (c.requires.apart c.if-apart.true)
