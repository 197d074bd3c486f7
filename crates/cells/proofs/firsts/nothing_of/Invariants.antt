-- Nothing of the cells so far.
use Rattle.std.proofs.Common.{◌≡◌, [], take}
use Rattle.cells.specs.Firsts.{firsts}
use Rattle.cells.proofs.firsts.nothing_of.Given as goal

abbrev pub invariant-loop-cell : goal.invariant-loop-cell
invariant-loop-cell l = l.found.items ≡ firsts [] (take l._cell-index l.cells)
