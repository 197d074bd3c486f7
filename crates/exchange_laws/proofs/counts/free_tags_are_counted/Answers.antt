use Rattle.exchange_laws.proofs.Counted.{free_tags_are_counted}
use Rattle.exchange_laws.proofs.counts.free_tags_are_counted.Goals as goal

pub returns : goal.returns
returns c = free_tags_are_counted
