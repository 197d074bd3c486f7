use Rattle.exchange_laws.proofs.TouchedPrefixes.{new_pairs_are_touched}
use Rattle.exchange_laws.proofs.touched.new_pairs_are_touched.Goals as goal

pub returns : goal.returns
returns c = new_pairs_are_touched
