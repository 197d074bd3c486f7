-- The lines that were taken are rules.
use Rattle.std.proofs.Common.{◌≡◌}
use Rattle.block_build.specs.Rules.{rules_of}
use Rattle.block_build.proofs.actions.rules_of.Given as goal

abbrev pub invariant-loop-x : goal.invariant-loop-x
invariant-loop-x l = l.rules.items ≡ rules_of l.yielded
