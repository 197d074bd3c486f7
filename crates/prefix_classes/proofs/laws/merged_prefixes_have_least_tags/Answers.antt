use Rattle.prefix_classes.proofs.MergeLemmas.{has_least}
use Rattle.prefix_classes.proofs.laws.merged_prefixes_have_least_tags.Goals as goal

pub returns : goal.returns
returns c = λ tags kept moves is p sig known. (let at = has_least tags kept moves is p sig known in (at.to, at.now, at.least))
