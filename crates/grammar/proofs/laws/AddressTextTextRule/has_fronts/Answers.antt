-- Each front of an address begins one.
use Rattle.grammar.proofs.Fronts.{address_fronts}
use Rattle.grammar.proofs.laws.AddressTextTextRule.has_fronts.Goals as goal

pub returns : goal.returns
returns c = λ d. address_fronts
