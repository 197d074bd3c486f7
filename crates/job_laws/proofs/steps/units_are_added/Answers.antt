use Rattle.job_laws.proofs.OwedUnits.{units_are_added}
use Rattle.job_laws.proofs.steps.units_are_added.Goals as goal

pub returns : goal.returns
returns c = units_are_added
