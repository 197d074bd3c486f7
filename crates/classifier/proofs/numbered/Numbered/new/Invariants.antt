use Rattle.std.proofs.Common.{take}
use Rattle.classifier.specs.Numbered.{AreNumbered}
use Rattle.classifier.proofs.numbered.Numbered.new.Given as goal

-- the rules of before have their numbers
abbrev pub invariant-loop-line : goal.invariant-loop-line
invariant-loop-line l = AreNumbered l.table.lists.items (take l.line-index l.line-items) l.numbers.items
