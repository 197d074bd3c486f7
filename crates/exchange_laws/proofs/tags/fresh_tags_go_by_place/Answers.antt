use Rattle.exchange_laws.proofs.FreshTags.{by_place}
use Rattle.exchange_laws.proofs.tags.fresh_tags_go_by_place.Goals as goal

pub returns : goal.returns
returns c = by_place
