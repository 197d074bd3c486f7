-- The fronts of a text are those of a rule at its start.
use Rattle.grammar.proofs.Fronts.{text_fronts}
use Rattle.grammar.proofs.laws.fronts_begin_texts.Goals as goal

pub returns : goal.returns
returns g c = λ d text x k sp. text_fronts (g.T.TextRule.rule d) (c.has_fronts.ensures d) text x k sp
