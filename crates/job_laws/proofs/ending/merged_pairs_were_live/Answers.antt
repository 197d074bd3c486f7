use Rattle.job_laws.proofs.MergedStates.{merged_pairs_were_live}
use Rattle.job_laws.proofs.ending.merged_pairs_were_live.Goals as goal

pub returns : goal.returns
returns c = merged_pairs_were_live
