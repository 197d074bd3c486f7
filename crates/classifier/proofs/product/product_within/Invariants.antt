use Rattle.std.proofs.Common.{◌≡◌, [], drop, take}
use Rattle.classifier.specs.Lines.{add_lines, product}
use Rattle.classifier.specs.Seen.{Agrees}
use Rattle.classifier.proofs.product.product_within.Given as goal

-- what is left makes the whole, and what was taken makes what is there
abbrev pub invariant-loop-x : goal.invariant-loop-x
invariant-loop-x l = record {
  whole : add_lines l.lines.items (product l.join (drop l.x-index l.xs) l.ys) ≡ add_lines [] (product l.join l.xs l.ys);
  front : l.lines.items ≡ add_lines [] (product l.join (take l.x-index l.xs) l.ys);
  agrees : Agrees l.lines.items l.seen;
}
