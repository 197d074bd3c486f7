use Rattle.exchange_laws.proofs.Counted.{numbers_fit_cells}
use Rattle.exchange_laws.proofs.counts.numbers_fit_cells.Goals as goal

pub returns : goal.returns
returns c = numbers_fit_cells
