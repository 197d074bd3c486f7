-- What was looked at is taken; the others are left.
use Rattle.std.proofs.Common.{◌⊎◌, drop}
use Rattle.classifier.specs.declared.line.Line.{Line}
use Rattle.net_types.specs.Sets.{Member}
use Rattle.block_build.specs.Ports.{AreTaken, KeepPorts}
use Rattle.block_build.proofs.ports.take_lines.Given as goal

abbrev pub invariant-loop-line : goal.invariant-loop-line
invariant-loop-line l = record {
  taken : (z : Line) → Member z l.lines → AreTaken l.ports z.results ⊎ Member z (drop l.line-index l.lines);
  kept : KeepPorts l.fn.ports l.ports;
}
