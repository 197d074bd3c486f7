-- What is read exactly at each place is so from the start to the end.
use Rattle.grammar.proofs.Texts.{text_said}
use Rattle.grammar.proofs.laws.texts_are_read.Goals as goal

pub returns : goal.returns
returns g c = λ d text. text_said _ d g.T.TextRule.follow text (g.T.TextRule.reader d) (c.reads_exactly.ensures d)
