-- Meets of the cubes and one of these are meets of these.
use Rattle.block_build.proofs.CutLemmas.{meets_one}
use Rattle.block_build.proofs.cutting.add_one.Goals as goal

pub returns-in_err-add-clause-meets : goal.returns-in_err-add-clause-meets
returns-in_err-add-clause-meets c = λ atoms before atom x k. meets_one atoms c.args.atom.now x atom (c.add.ensures.meets atoms before x k)

pub returns-clause-meets : goal.returns-clause-meets
returns-clause-meets c = λ atoms before atom x k. meets_one atoms c.args.atom.now x atom (c.add.ensures.meets atoms before x k)
