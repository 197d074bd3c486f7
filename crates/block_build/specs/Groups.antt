-- Rules in groups of runs.
use Rattle.std.specs.Prelude.{List, [], ◌∷◌, ◌++◌}
use Rattle.classifier.specs.Runs.{lines_in}
use Rattle.classifier.specs.declared.line.Line.{Line}
use Rattle.block_build.specs.declared.group.Group.{Group}

-- the rules of the groups, in order
abbrev pub lines_within : List Group → List Line
lines_within [] = []
lines_within (group ∷ groups) = lines_in group.runs.items ++ lines_within groups
