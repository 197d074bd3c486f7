use Rattle.std.proofs.Common.{◌≡◌, drop}
use Rattle.classifier.specs.declared.join.Join.TheVariants.{Union}
use Rattle.classifier.specs.Lines.{add_lines, product, pulled}
use Rattle.classifier.specs.Runs.{lines_in}
use Rattle.classifier.specs.Seen.{Agrees}
use Rattle.classifier.proofs.composition.push_product_behind.Given as goal

-- what is left makes the whole
abbrev pub invariant-loop-x : goal.invariant-loop-x
invariant-loop-x l = record {
  whole : add_lines l.lines.items (product Union (drop l.x-index l.xs) (pulled l.first (lines_in l.runs))) ≡ add_lines l.fn.lines.items (product Union l.xs (pulled l.first (lines_in l.runs)));
  agrees : Agrees l.lines.items l.seen;
}
