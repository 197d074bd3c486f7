use Rattle.std.proofs.Common.{◌≡◌, ◌≤◌, drop}
use Rattle.events.specs.Lines.{number_from}
use Rattle.replay_run.proofs.words.number_up_to.Given as goal

-- the digits so far are a number that is not too great
abbrev pub invariant-loop-digit : goal.invariant-loop-digit
invariant-loop-digit l = (l.value ≤ l.high) × (number_from 0 l.digits ≡ number_from l.value (drop l.digit-index l.digits))
