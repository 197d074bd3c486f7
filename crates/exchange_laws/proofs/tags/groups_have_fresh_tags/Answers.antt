use Rattle.exchange_laws.proofs.FreshTags.{group_has_fresh}
use Rattle.exchange_laws.proofs.tags.groups_have_fresh_tags.Goals as goal

pub returns : goal.returns
returns c = group_has_fresh
