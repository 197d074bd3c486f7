use Rattle.prefix_classes.proofs.ChangeLemmas.{changed_prefixes_have_new_tags}
use Rattle.prefix_classes.proofs.laws.changed_prefixes_have_new_tags.Goals as goal

pub returns : goal.returns
returns c = changed_prefixes_have_new_tags
