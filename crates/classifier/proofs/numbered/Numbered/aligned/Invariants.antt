use Rattle.std.proofs.Common.{◌≡◌, ◌++◌, drop}
use Rattle.classifier.specs.Classifiers.{lines_of}
use Rattle.classifier.specs.Lines.{aligned}
use Rattle.classifier.specs.Numbered.{AreNumbered}
use Rattle.classifier.proofs.numbered.Numbered.aligned.Given as goal

-- what is left makes the whole
abbrev pub invariant-loop-i : goal.invariant-loop-i
invariant-loop-i l = record {
  whole : l.lines.items ++ aligned (drop l.i l.xs) (drop l.i (lines_of l.b.whole)) ≡ aligned l.xs (lines_of l.b.whole);
  numbered : AreNumbered l.joins.table.lists.items l.lines.items l.numbers.items;
  firsts : l.joins.firsts.now ≡ l.a.table.lists.items;
  seconds : l.joins.seconds.now ≡ l.b.table.lists.items;
}
