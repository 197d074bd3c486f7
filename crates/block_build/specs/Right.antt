-- When rules are right for a view, and when there may be none (this exchange's own rule).
use Rattle.std.specs.Prelude.{ℕ, ◌<◌, ◌≤◌, Bool, true, not, ◌&&◌, List, [], ◌∷◌, length, is_some}
use Rattle.classifier.specs.Meaning as lines
use Rattle.classifier.specs.declared.line.Line.{Line}
use Rattle.events.specs.Sound.{IsRightBy}
use Rattle.net_types.specs.Answers.{Leaving}
use Rattle.net_types.specs.Meets.{meets}
use Rattle.net_types.specs.declared.address.PortNo.{PortNo}
use Rattle.net_types.specs.declared.cube.Cube.{Cube}
use Rattle.net_types.specs.declared.headers.Headers.{Headers}
use Rattle.net_types.specs.declared.headers.Loc.TheVariants.{Stay}
use Rattle.net_types.specs.declared.route.Part.{Part}
use Rattle.net_types.specs.declared.rule.Rule.{Rule}
use Rattle.block_build.specs.Outcomes.{answer_from, atoms_from}
use Rattle.block_build.specs.Views.{Viewed, inbound_of}
use Rattle.block_build.specs.declared.block.BuildFault.{BuildFault}
use Rattle.block_build.specs.declared.block.BuildFault.TheVariants.{Wide, Memory}

-- a part's answer by the rules of a view
abbrev pub view_answer : Viewed → Part → Headers → List Leaving
view_answer v part h = answer_from (λ g. lines.meaning v.outbound g Stay) (λ who g. lines.meaning (inbound_of v who) g Stay) part h

-- the cubes of a view that count for a port and a part
abbrev pub view_atoms : Viewed → PortNo → Part → List Cube
view_atoms v port part = atoms_from port (lines.cubes_of v.outbound) (λ who. lines.cubes_of (inbound_of v who)) part

-- the rules are right for a view, a port and a part
abbrev pub IsRightFor : Viewed → PortNo → Part → List Rule → Type 0
IsRightFor v port part rules = IsRightBy port (view_answer v part) (view_atoms v port part) rules

-- none of the rules tells by which port a packet has to come in
abbrev pub are_for_any_port : List Line → Bool
are_for_any_port [] = true
are_for_any_port (x ∷ xs) = not (is_some x.cube.inport) && are_for_any_port xs

-- the rules are right for a view and a part at every port
abbrev pub IsRightAnywhere : Viewed → Part → List Rule → Type 0
IsRightAnywhere v part rules = (port : PortNo) → IsRightFor v port part rules

-- how many different cubes right rules for a view can have
abbrev pub view_cells : Viewed → PortNo → Part → ℕ
view_cells v port part = length (meets (view_atoms v port part))

-- more rules than the room, and no more than the cells; want of memory may always come
abbrev pub IsWide : ℕ → ℕ → BuildFault → Type 0
IsWide room cells (Wide rules) = (room < rules) × (rules ≤ cells)
IsWide room cells Memory = Unit {0}
