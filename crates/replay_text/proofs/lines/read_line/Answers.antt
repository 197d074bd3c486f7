use Rattle.std.proofs.Common.{sym, subst}
use Rattle.events.specs.Forms.{IsWellFormed}
use Rattle.replay_text.proofs.Formed.{line_formed}
use Rattle.replay_text.proofs.lines.read_line.Goals as goal

pub returns-clause-formed : goal.returns-clause-formed
returns-clause-formed c = subst IsWellFormed (sym c.in_ok-line_event.ensures) (line_formed c.args.line.now)
