use Rattle.std.proofs.Common.{ap, ◌∙◌}
use Rattle.net_types.specs.Cubes.{everything}
use Rattle.net_types.proofs.CubeLemmas.{within_refl}
use Rattle.classifier.specs.Meaning.{HasDistinctCubes, ends_with_everything}
use Rattle.classifier.specs.Meaning as lines
use Rattle.classifier.proofs.ResultLemmas.{meaning-all}
use Rattle.classifier.proofs.ops.single.Goals as goal

pub from_vec-requires-clause-total : goal.from_vec-requires-clause-total
from_vec-requires-clause-total c = ap ends_with_everything c.in_ok-lines.ensures ∙ within_refl everything

pub returns-clause-all : goal.returns-clause-all
returns-clause-all c = λ h l. ap (λ x. lines.meaning x h l) (c.from_vec.ensures ∙ c.in_ok-lines.ensures) ∙ meaning-all c.args.results h l
