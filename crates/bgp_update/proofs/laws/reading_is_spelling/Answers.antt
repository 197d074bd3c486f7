-- Reading is exact, and a message has one value.
use Rattle.bgp_update.proofs.ReadAsSpelled.{decoded_fails, decoded_spells, fails_decoded, spells_decoded}
use Rattle.bgp_update.proofs.laws.reading_is_spelling.Goals as goal

pub returns-clause-spelled : goal.returns-clause-spelled
returns-clause-spelled c = λ b u. (decoded_spells b u, spells_decoded b u)

pub returns-clause-failed : goal.returns-clause-failed
returns-clause-failed c = λ b f. (decoded_fails b f, fails_decoded b f)
