use Rattle.job_upkeep.proofs.QuietLines.{refused_keep}
use Rattle.job_upkeep.proofs.lines.refused_lines_keep_jobs.Goals as goal

pub returns : goal.returns
returns c = refused_keep
