-- The law.
use Rattle.block_build.proofs.PolicyRight.{no_more_cells}
use Rattle.block_build.proofs.laws.no_more_cells.Goals as goal

pub returns : goal.returns
returns c = no_more_cells
