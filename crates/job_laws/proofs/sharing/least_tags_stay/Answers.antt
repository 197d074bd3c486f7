use Rattle.job_laws.proofs.SharedTags.{least_tags_stay}
use Rattle.job_laws.proofs.sharing.least_tags_stay.Goals as goal

pub returns : goal.returns
returns c = least_tags_stay
