use Rattle.exchange_laws.proofs.QuietLines.{quiet_lines_are_accepted}
use Rattle.exchange_laws.proofs.quiet.quiet_lines_are_accepted.Goals as goal

pub returns : goal.returns
returns c = quiet_lines_are_accepted
