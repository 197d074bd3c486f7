use Rattle.exchange_laws.proofs.TagsAfter.{live_tags_stay}
use Rattle.exchange_laws.proofs.tags.live_tags_keep_signatures.Goals as goal

pub returns : goal.returns
returns c = live_tags_stay
