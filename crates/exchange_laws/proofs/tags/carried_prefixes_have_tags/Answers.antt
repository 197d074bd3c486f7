use Rattle.exchange_laws.proofs.TagsAfter.{carried_have_tags}
use Rattle.exchange_laws.proofs.tags.carried_prefixes_have_tags.Goals as goal

pub returns : goal.returns
returns c = carried_have_tags
