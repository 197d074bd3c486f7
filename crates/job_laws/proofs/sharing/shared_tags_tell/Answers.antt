use Rattle.job_laws.proofs.SharedTags.{shared_tags_tell}
use Rattle.job_laws.proofs.sharing.shared_tags_tell.Goals as goal

pub returns : goal.returns
returns c = shared_tags_tell
