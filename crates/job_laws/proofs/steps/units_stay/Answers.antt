use Rattle.job_laws.proofs.OwedUnits.{units_stay}
use Rattle.job_laws.proofs.steps.units_stay.Goals as goal

pub returns : goal.returns
returns c = units_stay
