use Rattle.exchange_laws.proofs.TagsAfter.{tags_stay_pooled}
use Rattle.exchange_laws.proofs.tags.tags_stay_pooled.Goals as goal

pub returns : goal.returns
returns c = tags_stay_pooled
