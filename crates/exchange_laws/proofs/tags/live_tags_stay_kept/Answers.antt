use Rattle.exchange_laws.proofs.TagsAfter.{live_stay_kept}
use Rattle.exchange_laws.proofs.tags.live_tags_stay_kept.Goals as goal

pub returns : goal.returns
returns c = live_stay_kept
