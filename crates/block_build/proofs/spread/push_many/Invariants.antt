-- What the first rules make is added.
use Rattle.std.proofs.Common.{◌≡◌, take}
use Rattle.std.specs.Bool.{IsTrue}
use Rattle.classifier.specs.Lines.{add_lines, product}
use Rattle.classifier.specs.Seen.{Agrees}
use Rattle.classifier.specs.declared.join.Join.TheVariants.{Union}
use Rattle.block_build.specs.Closed.{AreClosed}
use Rattle.block_build.proofs.spread.push_many.Given as goal

abbrev pub invariant-loop-x : goal.invariant-loop-x
invariant-loop-x l = record {
  front : l.lines.items ≡ add_lines l.fn.lines.items (product Union (take l.x-index l.xs) l.receiver.lines);
  agrees : Agrees l.lines.items l.seen;
  closed : IsTrue l.closed → AreClosed l.tests.items l.lines.items;
}
