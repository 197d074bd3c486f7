use Rattle.exchange_laws.proofs.TouchedPrefixes.{gone_pairs_are_touched}
use Rattle.exchange_laws.proofs.touched.gone_pairs_are_touched.Goals as goal

pub returns : goal.returns
returns c = gone_pairs_are_touched
