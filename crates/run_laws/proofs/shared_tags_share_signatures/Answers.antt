use Rattle.run_laws.proofs.Sharing.{shared_tags_share_signatures}
use Rattle.run_laws.proofs.shared_tags_share_signatures.Goals as goal

pub returns : goal.returns
returns c = shared_tags_share_signatures
