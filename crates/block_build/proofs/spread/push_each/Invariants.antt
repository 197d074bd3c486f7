-- What the first rules make is added.
use Rattle.std.proofs.Common.{◌≡◌, take}
use Rattle.classifier.specs.Lines.{add_lines, product}
use Rattle.classifier.specs.Seen.{Agrees}
use Rattle.classifier.specs.declared.join.Join.TheVariants.{Union}
use Rattle.block_build.proofs.spread.push_each.Given as goal

abbrev pub invariant-loop-x : goal.invariant-loop-x
invariant-loop-x l = record {
  front : l.lines.items ≡ add_lines l.fn.lines.items (product Union (take l.x-index l.xs) l.receiver.lines);
  agrees : Agrees l.lines.items l.seen;
}
