-- What is left decides.
use Rattle.std.proofs.Common.{◌≡◌, drop}
use Rattle.recompile.specs.Tight.{has_within}
use Rattle.recompile.proofs.tight.has_within.Given as goal

abbrev pub invariant-loop-later : goal.invariant-loop-later
invariant-loop-later l = has_within l.cube (drop l.later-index l.rules) ≡ has_within l.cube l.rules
