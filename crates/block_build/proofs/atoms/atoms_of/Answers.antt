-- The cubes stay, in another order.
use Rattle.block_build.proofs.AtomLemmas.{atoms-has, atoms-theirs}
use Rattle.block_build.proofs.atoms.atoms_of.Goals as goal

pub returns-clause-has : goal.returns-clause-has
returns-clause-has c = atoms-has c.args.xs.now c.args.receivers.now c.in_ok-cubes.cubes.items c.wider_first.result.items c.in_ok-cubes.ensures c.wider_first.ensures

pub returns-clause-theirs : goal.returns-clause-theirs
returns-clause-theirs c = atoms-theirs c.args.xs.now c.args.receivers.now c.in_ok-cubes.cubes.items c.wider_first.result.items c.in_ok-cubes.ensures c.wider_first.ensures
