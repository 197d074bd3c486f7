use Rattle.exchange_laws.proofs.TouchedPrefixes.{touched_have_groups}
use Rattle.exchange_laws.proofs.touched.touched_prefixes_have_groups.Goals as goal

pub returns : goal.returns
returns c = touched_have_groups
