use Rattle.job_laws.proofs.MergedStates.{merged_tags_were_live}
use Rattle.job_laws.proofs.ending.merged_tags_were_live.Goals as goal

pub returns : goal.returns
returns c = merged_tags_were_live
