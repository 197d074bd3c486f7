-- What is left without those to come is what all leave.
use Rattle.std.proofs.Common.{◌≡◌, drop}
use Rattle.recompile.specs.Units.{without_each}
use Rattle.recompile.proofs.lists.take_out_each.Given as goal

abbrev pub invariant-loop-tag : goal.invariant-loop-tag
invariant-loop-tag l = without_each (drop l.tag-index l.tags) l.placed ≡ without_each l.tags l.fn.placed
