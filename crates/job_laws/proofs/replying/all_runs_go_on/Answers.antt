use Rattle.job_laws.proofs.Replies.{all_runs_go_on}
use Rattle.job_laws.proofs.replying.all_runs_go_on.Goals as goal

pub returns : goal.returns
returns c = all_runs_go_on
