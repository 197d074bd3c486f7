-- Fields that are written one after the other.
use Rattle.std.specs.Prelude.{ℕ, List, [], ◌∷◌, ◌++◌, codes, flat_map}
use Rattle.net_types.specs.declared.actions.Action.{Action}
use Rattle.net_types.specs.declared.headers.Assign.{Assign}
use Rattle.net_types.specs.declared.cube.Cube.{Cube}
use Rattle.events.specs.declared.Flow.{Flow}
use Rattle.events.specs.Text.{action_text, address_field, end_line, number_field, pair_text, prefix_field, rule_text}

-- Fields with commas between them, and before the first one what leads them.
abbrev pub led : List ℕ → List (List ℕ) → List ℕ
led lead [] = []
led lead (x ∷ xs) = lead ++ x ++ led (codes ",") xs

-- What leads the next field.
abbrev pub next_lead : List ℕ → List (List ℕ) → List ℕ
next_lead lead [] = lead
next_lead lead (x ∷ xs) = codes ","

-- What stands behind the field before these.
abbrev pub next_close : ℕ → List (List ℕ) → ℕ
next_close close [] = close
next_close close (x ∷ xs) = 44

-- Fields with commas between them, and behind the last one what closes them.
abbrev pub closed : ℕ → List (List ℕ) → List ℕ
closed close [] = []
closed close (x ∷ xs) = x ++ (next_close close xs ∷ closed close xs)

-- The fields of a cube that are not any.
abbrev pub cube_fields : Cube → List (List ℕ)
cube_fields c = prefix_field (codes "srcip") c.src ++ prefix_field (codes "dstip") c.dst ++ number_field (codes "proto") c.proto ++ number_field (codes "srcport") c.sport ++ number_field (codes "dstport") c.dport

-- The fields that an action sets.
abbrev pub set_fields : Assign → List (List ℕ)
set_fields s = address_field (codes "srcip") s.src ++ address_field (codes "dstip") s.dst ++ number_field (codes "srcport") s.sport ++ number_field (codes "dstport") s.dport

-- The actions behind the first.
abbrev pub more_text : List Action → List ℕ
more_text actions = flat_map (λ (a : Action). codes " + " ++ action_text a) actions

-- A pair with its rule, as it stands behind the first word of a line.
abbrev pub pair_rule_text : Flow → List ℕ
pair_rule_text f = pair_text f.pair ++ codes " " ++ rule_text f.rule ++ end_line
