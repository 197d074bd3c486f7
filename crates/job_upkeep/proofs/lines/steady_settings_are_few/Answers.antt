use Rattle.job_upkeep.proofs.QuietLines.{settings_are_few}
use Rattle.job_upkeep.proofs.lines.steady_settings_are_few.Goals as goal

pub returns : goal.returns
returns c = settings_are_few
