-- What a classifier makes of a packet, and the cubes and assignments that stand in it.
use Rattle.std.specs.Prelude.{List}
use Rattle.net_types.specs.declared.cube.Cube.{Cube}
use Rattle.net_types.specs.declared.headers.Headers.{Headers}
use Rattle.net_types.specs.declared.headers.Loc.{Loc}
use Rattle.net_types.specs.declared.headers.Assign.{Assign}
use Rattle.net_types.specs.Policies.{Packet}
use Rattle.classifier.specs.declared.line.Line.{Line}
use Rattle.classifier.specs.declared.classifier.Classifier.{Classifier}
use Rattle.classifier.specs.Meaning as lines

-- the rules of a classifier in their order
abbrev pub lines_of : Classifier → List Line
lines_of c = c.lines

-- the packets that a classifier makes of a packet
abbrev pub meaning : Classifier → Headers → Loc → List Packet
meaning c h l = lines.meaning (lines_of c) h l

-- the cubes of a classifier in their order
abbrev pub cubes_of : Classifier → List Cube
cubes_of c = lines.cubes_of (lines_of c)

-- the assignments that stand in a classifier
abbrev pub assigns_of : Classifier → List Assign
assigns_of c = lines.assigns_of (lines_of c)
