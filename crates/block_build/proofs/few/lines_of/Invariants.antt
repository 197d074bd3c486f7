-- The rules so far are those of the cells.
use Rattle.std.proofs.Common.{◌≡◌, List, take}
use Rattle.classifier.specs.Meaning.{cubes_of}
use Rattle.classifier.specs.Numbered.{AreNumbered}
use Rattle.classifier.specs.declared.line.Line.{Line}
use Rattle.block_build.proofs.few.lines_of.Given as goal

abbrev pub invariant-loop-i : goal.invariant-loop-i
invariant-loop-i l = (zs : List Line) → cubes_of zs ≡ l.cells → AreNumbered l.few.table.lists.items zs l.few.numbers.items → l.lines.items ≡ take l.i zs
