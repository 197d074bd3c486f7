use Rattle.exchange_laws.proofs.FreshTags.{free_tags_rise}
use Rattle.exchange_laws.proofs.tags.free_tags_rise.Goals as goal

pub returns : goal.returns
returns c = free_tags_rise
