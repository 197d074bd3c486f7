use Rattle.exchange_laws.proofs.FreshTags.{group_listed}
use Rattle.exchange_laws.proofs.tags.changed_prefixes_are_grouped.Goals as goal

pub returns : goal.returns
returns c = group_listed
