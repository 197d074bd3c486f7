-- Rules over ports to leave by, as rules of the table.
use Rattle.std.specs.Prelude.{List, [], ◌∷◌, map}
use Rattle.classifier.specs.Items.{Item}
use Rattle.classifier.specs.declared.line.Line.{Line}
use Rattle.net_types.specs.Actions.{action_cmp}
use Rattle.net_types.specs.Maps.{ordered}
use Rattle.net_types.specs.Sets.{union_over}
use Rattle.net_types.specs.declared.headers.Assign.{Assign}
use Rattle.net_types.specs.declared.headers.Loc.{Loc}
use Rattle.net_types.specs.declared.headers.Loc.TheVariants.{Stay, To, Out, Nowhere}
use Rattle.net_types.specs.declared.actions.Action.{Action}
use Rattle.net_types.specs.declared.rule.Rule.{Rule}

-- what leaves by a port, as an action
abbrev pub action_at : Assign → Loc → List Action
action_at set Stay = []
action_at set (To who) = []
action_at set (Out port) = record { port = port; set = set } ∷ []
action_at set Nowhere = []

-- the actions of items that leave by ports, in no order
abbrev pub actions_in : List Item → List Action
actions_in items = union_over (λ (i : Item). action_at i.0 i.1) items

-- the actions of items that leave by ports, in order, each once
abbrev pub actions_of : List Item → List Action
actions_of items = ordered action_cmp (actions_in items)

-- a line as a rule of the table
abbrev pub rule_of : Line → Rule
rule_of x = record { cube = x.cube; actions = actions_of x.results }

-- lines as rules of the table
abbrev pub rules_of : List Line → List Rule
rules_of xs = map rule_of xs
