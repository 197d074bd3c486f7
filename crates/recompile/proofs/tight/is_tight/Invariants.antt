-- What is left decides.
use Rattle.std.proofs.Common.{drop}
use Rattle.recompile.proofs.TightRules.{TellsAll}
use Rattle.recompile.proofs.tight.is_tight.Given as goal

abbrev pub invariant-loop-i : goal.invariant-loop-i
invariant-loop-i l = TellsAll l.rules (drop l.i l.rules)
