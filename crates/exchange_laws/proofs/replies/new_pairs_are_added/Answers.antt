use Rattle.exchange_laws.proofs.ListedPairs.{new_are_added}
use Rattle.exchange_laws.proofs.replies.new_pairs_are_added.Goals as goal

pub returns : goal.returns
returns c = new_are_added
