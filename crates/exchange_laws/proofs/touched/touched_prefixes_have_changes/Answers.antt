use Rattle.exchange_laws.proofs.TouchedPrefixes.{touched_have_changes}
use Rattle.exchange_laws.proofs.touched.touched_prefixes_have_changes.Goals as goal

pub returns : goal.returns
returns c = touched_have_changes
