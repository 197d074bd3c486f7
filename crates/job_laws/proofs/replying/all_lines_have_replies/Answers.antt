use Rattle.job_laws.proofs.Replies.{all_lines_have_replies}
use Rattle.job_laws.proofs.replying.all_lines_have_replies.Goals as goal

pub returns : goal.returns
returns c = all_lines_have_replies
