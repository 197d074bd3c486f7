use Rattle.exchange_laws.proofs.FreshTags.{one_group}
use Rattle.exchange_laws.proofs.tags.fresh_tags_differ.Goals as goal

pub returns : goal.returns
returns c = one_group
