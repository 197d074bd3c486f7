-- Beside none, the results are as they were.
use Rattle.classifier.proofs.UnionLemmas.{beside_none}
use Rattle.block_build.proofs.received.Received.beside_others.Goals as goal

pub returns-then-is_empty : goal.returns-then-is_empty
returns-then-is_empty c = beside_none c.args.others.now c.args.results (c.is_empty.ensures.0 c.if-is_empty.true) c.known.ensures
