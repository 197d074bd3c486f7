-- The cubes of the rules so far.
use Rattle.std.proofs.Common.{◌≡◌, take}
use Rattle.classifier.specs.Meaning.{cubes_of}
use Rattle.block_build.proofs.exits.cubes_of.Given as goal

abbrev pub invariant-loop-line : goal.invariant-loop-line
invariant-loop-line l = l.cubes.items ≡ cubes_of (take l.line-index l.lines)
