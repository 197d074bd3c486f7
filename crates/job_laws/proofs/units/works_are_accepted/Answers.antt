use Rattle.job_laws.proofs.JobUnits.{works_are_accepted}
use Rattle.job_laws.proofs.units.works_are_accepted.Goals as goal

pub returns : goal.returns
returns c = works_are_accepted
