-- A number of four octets is read exactly.
use Rattle.grammar.proofs.FormatNumbers.{four_octets_exact}
use Rattle.grammar.proofs.laws.FourOctetsMessageFormat.reads_exactly.Goals as goal

pub returns : goal.returns
returns c = four_octets_exact tt
