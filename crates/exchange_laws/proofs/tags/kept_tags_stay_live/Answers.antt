use Rattle.exchange_laws.proofs.TagsAfter.{kept_stay_live}
use Rattle.exchange_laws.proofs.tags.kept_tags_stay_live.Goals as goal

pub returns : goal.returns
returns c = kept_stay_live
