use Rattle.exchange_laws.proofs.TouchedPrefixes.{others_stay_present}
use Rattle.exchange_laws.proofs.touched.other_prefixes_stay_present.Goals as goal

pub returns : goal.returns
returns c = others_stay_present
