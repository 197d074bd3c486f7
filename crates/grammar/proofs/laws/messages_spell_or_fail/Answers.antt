-- What is read exactly fails nowhere.
use Rattle.grammar.proofs.Conflicts.{spells_or_fails}
use Rattle.grammar.proofs.laws.messages_spell_or_fail.Goals as goal

pub returns : goal.returns
returns g c = λ s a b x e p sp bad. spells_or_fails g.T.MessageFormat.format g.T.MessageFormat.reader c.reads_exactly.ensures s a b x e p sp bad
