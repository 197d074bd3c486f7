use Rattle.prefix_classes.proofs.ChangeLemmas.{other_prefixes_keep_their_tags}
use Rattle.prefix_classes.proofs.laws.other_prefixes_keep_their_tags.Goals as goal

pub returns : goal.returns
returns c = other_prefixes_keep_their_tags
