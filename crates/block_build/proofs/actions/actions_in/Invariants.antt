-- What is left makes the whole.
use Rattle.std.proofs.Common.{◌≡◌, ◌++◌, drop}
use Rattle.block_build.specs.Rules.{actions_in}
use Rattle.block_build.proofs.actions.actions_in.Given as goal

abbrev pub invariant-loop-pair : goal.invariant-loop-pair
invariant-loop-pair l = l.actions.items ++ actions_in (drop l.pair-index l.items) ≡ actions_in l.items
