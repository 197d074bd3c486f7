use Rattle.std.proofs.Common.{◌≡◌, [], drop}
use Rattle.classifier.specs.Classifiers.{lines_of}
use Rattle.classifier.specs.Lines.{add_lines, product}
use Rattle.classifier.specs.Numbered.{AreNumbered}
use Rattle.classifier.specs.Seen.{Agrees}
use Rattle.classifier.specs.declared.join.Join.TheVariants.{Union}
use Rattle.classifier.proofs.numbered.Numbered.join.Given as goal

-- what is left makes the whole
abbrev pub invariant-loop-i : goal.invariant-loop-i
invariant-loop-i l = record {
  whole : add_lines l.lines.items (product Union (drop l.i l.xs) (lines_of l.b.whole)) ≡ add_lines [] (product Union l.xs (lines_of l.b.whole));
  numbered : AreNumbered l.joins.table.lists.items l.lines.items l.numbers.items;
  agrees : Agrees l.lines.items l.seen;
  firsts : l.joins.firsts.now ≡ l.a.table.lists.items;
  seconds : l.joins.seconds.now ≡ l.b.table.lists.items;
}
