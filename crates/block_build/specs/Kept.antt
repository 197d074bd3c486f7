-- What is kept of a receiver's rules.
use Rattle.std.specs.Prelude.{List, [], ◌∷◌}
use Rattle.classifier.specs.Lines.{line}
use Rattle.classifier.specs.declared.line.Line.{Line}
use Rattle.net_types.specs.Cubes.{everything}
use Rattle.block_build.specs.Groups.{lines_within}
use Rattle.block_build.specs.Receivers.{received_lines}
use Rattle.net_types.specs.declared.address.Pid.{Pid}
use Rattle.block_build.specs.declared.receive.Receiver.{Receiver}
use Rattle.block_build.specs.declared.kept.Kept.{Kept}
use Rattle.block_build.specs.declared.kept.Kept.TheVariants.{Alone, Many}

-- the rules of which this is kept, as ports to leave by
abbrev pub kept_lines : Kept → List Line
kept_lines (Alone results) = line results everything ∷ []
kept_lines (Many rows) = received_lines rows.hop (lines_within rows.groups.items)

-- a participant with the rules of which this is kept
abbrev pub receiver_of : Pid → Kept → Receiver
receiver_of who kept = record { who = who; lines = kept_lines kept }
