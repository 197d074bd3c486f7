use Rattle.prefix_classes.proofs.TabulatedLemmas.{merged_tabulated}
use Rattle.prefix_classes.proofs.laws.merged_prefixes_are_tabulated.Goals as goal

pub returns : goal.returns
returns c = λ tags kept moves is ps sig_of have. merged_tabulated tags kept ps sig_of have moves is
