use Rattle.job_laws.proofs.JobUnits.{recompiles_are_accepted}
use Rattle.job_laws.proofs.units.recompiles_are_accepted.Goals as goal

pub returns : goal.returns
returns c = recompiles_are_accepted
