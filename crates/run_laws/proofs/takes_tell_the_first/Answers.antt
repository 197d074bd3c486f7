use Rattle.run_laws.proofs.Taking.{takes_tell_the_first}
use Rattle.run_laws.proofs.takes_tell_the_first.Goals as goal

pub returns : goal.returns
returns c = takes_tell_the_first
