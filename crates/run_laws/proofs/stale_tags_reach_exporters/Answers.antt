use Rattle.run_laws.proofs.Reaching.{stale_tags_reach_exporters}
use Rattle.run_laws.proofs.stale_tags_reach_exporters.Goals as goal

pub returns : goal.returns
returns c = stale_tags_reach_exporters
