-- What is read exactly spells one value.
use Rattle.grammar.proofs.Texts.{one_value}
use Rattle.grammar.proofs.laws.texts_spell_one_value.Goals as goal

pub returns : goal.returns
returns g c = λ d text x y a b. one_value _ d g.T.TextRule.follow text (g.T.TextRule.reader d) (c.reads_exactly.ensures d) x y a b
