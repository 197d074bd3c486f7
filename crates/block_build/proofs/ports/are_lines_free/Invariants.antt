-- What was looked at is free; the others are left.
use Rattle.std.proofs.Common.{◌⊎◌, drop}
use Rattle.classifier.specs.declared.line.Line.{Line}
use Rattle.net_types.specs.Sets.{Member}
use Rattle.block_build.specs.Ports.{AreFree}
use Rattle.block_build.specs.Receivers.{received_items}
use Rattle.block_build.proofs.ports.are_lines_free.Given as goal

abbrev pub invariant-loop-line : goal.invariant-loop-line
invariant-loop-line l = (y : Line) → Member y l.lines → AreFree l.ports (received_items l.hop y.results) ⊎ Member y (drop l.line-index l.lines)
