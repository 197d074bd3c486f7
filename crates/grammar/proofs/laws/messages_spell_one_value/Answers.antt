-- What is read exactly has one front.
use Rattle.grammar.proofs.Conflicts.{one_front}
use Rattle.grammar.proofs.laws.messages_spell_one_value.Goals as goal

pub returns : goal.returns
returns g c = λ s a b d e x y p q one two. one_front g.T.MessageFormat.format g.T.MessageFormat.reader c.reads_exactly.ensures s a b d e x y p q one two
