-- The reader's fault is each of them.
use Rattle.grammar.proofs.Conflicts.{one_first_fault}
use Rattle.grammar.proofs.laws.first_faults_are_one.Goals as goal

pub returns : goal.returns
returns g c = λ s e f one two. one_first_fault g.T.MessageFormat.format g.T.MessageFormat.reader c.reads_exactly.ensures s e f one two
