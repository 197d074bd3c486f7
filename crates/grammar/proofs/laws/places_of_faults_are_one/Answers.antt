-- The longest front that begins a text is one.
use Rattle.grammar.proofs.Texts.{one_syntax_fault, one_deep_fault, deep_or_syntax}
use Rattle.grammar.proofs.laws.places_of_faults_are_one.Goals as goal

pub returns-clause-wrong : goal.returns-clause-wrong
returns-clause-wrong g c = λ d text m n a b. one_syntax_fault g.T.TextRule.rule d text m n a b

pub returns-clause-deep : goal.returns-clause-deep
returns-clause-deep g c = λ d text m n a b. one_deep_fault g.T.TextRule.rule d text m n a b

pub returns-clause-apart : goal.returns-clause-apart
returns-clause-apart g c = λ d text m n a b. deep_or_syntax g.T.TextRule.rule d text m n a b
