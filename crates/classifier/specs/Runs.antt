-- Rules in runs.
use Rattle.std.specs.Prelude.{List, [], ◌∷◌, ◌++◌}
use Rattle.classifier.specs.declared.line.Line.{Line}
use Rattle.classifier.specs.declared.run.Run.{Run}

-- the rules of the runs, in order
abbrev pub lines_in : List Run → List Line
lines_in [] = []
lines_in (run ∷ runs) = run.lines.now ++ lines_in runs
