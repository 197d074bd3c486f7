-- Nothing is placed or taken out.
use Rattle.std.proofs.Common.{◌≡◌}
use Rattle.recompile.proofs.lists.reserve_each.Given as goal

abbrev pub invariant-loop-tag : goal.invariant-loop-tag
invariant-loop-tag l = l.placed ≡ l.fn.placed
