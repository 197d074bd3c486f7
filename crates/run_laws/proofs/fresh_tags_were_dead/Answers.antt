use Rattle.run_laws.proofs.Sharing.{fresh_tags_were_dead}
use Rattle.run_laws.proofs.fresh_tags_were_dead.Goals as goal

pub returns : goal.returns
returns c = fresh_tags_were_dead
