use Rattle.std.proofs.Common.{◌≡◌, [], ◌∷◌, drop}
use Rattle.classifier.specs.Lines.{block, line}
use Rattle.classifier.specs.Runs.{lines_in}
use Rattle.classifier.proofs.composition.block_of.Given as goal

-- what is left makes the whole
abbrev pub invariant-loop-pair : goal.invariant-loop-pair
invariant-loop-pair l = block l.lines.items (drop l.pair-index l.results) (lines_in l.runs) ≡ block (line [] l.fn.cube ∷ []) l.results (lines_in l.runs)
