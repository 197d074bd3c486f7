-- An address is read exactly where no digit stands behind it.
use Rattle.std.proofs.Common.{not}
use Rattle.std.proofs.lemmas.Bool.{both_ways, not-true}
use Rattle.grammar.specs.Tokens.{is_digit}
use Rattle.grammar.proofs.DottedAddresses.{address_exact}
use Rattle.grammar.proofs.laws.AddressTextTextRule.reads_exactly.Goals as goal

pub returns : goal.returns
returns c = λ d. address_exact d (λ b. not (is_digit b)) (λ b h k. both_ways (is_digit b) (not-true (is_digit b) k) h)
