-- How many steps the lines of a run take at most.
use Rattle.std.specs.Prelude.{ℕ, ◌+◌, List, [], ◌∷◌, Option, Some, None}
use Rattle.events.specs.After.{next}
use Rattle.events.specs.State.{State}
use Rattle.events.specs.declared.Event.{Event}
use Rattle.events.specs.declared.Reply.{Reply}
use Rattle.sdx_core.specs.Steps.{step_bound}

-- the bounds of the lines with replies, each in the state that the lines before leave
abbrev pub run_bound : State → List Event → List Reply → ℕ
run_bound s [] rs = 0
run_bound s (e ∷ es) [] = 0
run_bound s (e ∷ es) (r ∷ rs) = step_bound s e + run_bound (next s e r) es rs

-- the bound of a line with this event
abbrev pub line_bound : State → Option Event → ℕ
line_bound s None = 0
line_bound s (Some e) = step_bound s e

-- the bound of the first of some lines
abbrev pub first_bound : State → List Event → ℕ
first_bound s [] = 0
first_bound s (e ∷ es) = step_bound s e
