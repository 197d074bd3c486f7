-- The status of a run as a number: this exchange's own rule.
use Rattle.std.specs.Prelude.{ℕ}
use Rattle.replay_run.specs.declared.Status.{Status}
use Rattle.replay_run.specs.declared.Status.TheVariants.{Done, Refused, Usage, ReadFault, WriteFault, Memory, TooLong}

-- the number with which the program ends
abbrev pub exit_number : Status → ℕ
exit_number Done = 0
exit_number Refused = 1
exit_number Usage = 2
exit_number ReadFault = 3
exit_number WriteFault = 4
exit_number Memory = 5
exit_number TooLong = 6
