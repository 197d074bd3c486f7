use Rattle.std.proofs.Common.{◌≡◌, drop}
use Rattle.classifier.specs.Lines.{add_lines, row}
use Rattle.classifier.specs.Numbered.{AreNumbered}
use Rattle.classifier.specs.Seen.{Agrees}
use Rattle.classifier.specs.declared.join.Join.TheVariants.{Union}
use Rattle.classifier.proofs.numbered.push_unions.Given as goal

-- what is left makes the whole
abbrev pub invariant-loop-j : goal.invariant-loop-j
invariant-loop-j l = record {
  whole : add_lines l.lines.items (row Union l.x (drop l.j l.ys)) ≡ add_lines l.fn.lines.items (row Union l.x l.ys);
  numbered : AreNumbered l.joins.table.lists.items l.lines.items l.numbers.items;
  agrees : Agrees l.lines.items l.seen;
  firsts : l.joins.firsts.now ≡ l.fn.joins.firsts.now;
  seconds : l.joins.seconds.now ≡ l.fn.joins.seconds.now;
}
