use Rattle.job_laws.proofs.OwedUnits.{units_start_anew}
use Rattle.job_laws.proofs.steps.units_start_anew.Goals as goal

pub returns : goal.returns
returns c = units_start_anew
