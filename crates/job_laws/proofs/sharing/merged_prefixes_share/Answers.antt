use Rattle.job_laws.proofs.SharedTags.{merged_prefixes_share}
use Rattle.job_laws.proofs.sharing.merged_prefixes_share.Goals as goal

pub returns : goal.returns
returns c = merged_prefixes_share
