use Rattle.exchange_laws.proofs.TagsAfter.{signatures_are_kept}
use Rattle.exchange_laws.proofs.tags.signatures_are_kept.Goals as goal

pub returns : goal.returns
returns c = signatures_are_kept
