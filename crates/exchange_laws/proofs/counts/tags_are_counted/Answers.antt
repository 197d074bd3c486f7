use Rattle.exchange_laws.proofs.Counted.{tags_are_counted}
use Rattle.exchange_laws.proofs.counts.tags_are_counted.Goals as goal

pub returns : goal.returns
returns c = tags_are_counted
