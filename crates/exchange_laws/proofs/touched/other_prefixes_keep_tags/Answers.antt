use Rattle.exchange_laws.proofs.TouchedPrefixes.{others_keep_tags}
use Rattle.exchange_laws.proofs.touched.other_prefixes_keep_tags.Goals as goal

pub returns : goal.returns
returns c = others_keep_tags
