use Rattle.events.proofs.Accepted.{accepts_lines}
use Rattle.events.proofs.laws.lines_are_accepted.Goals as goal

pub returns : goal.returns
returns c = accepts_lines
