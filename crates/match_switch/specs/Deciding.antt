-- Which actions the table decides on for a frame (this exchange's own rule).
use Rattle.std.specs.Prelude.{ℕ, List, [], unwrap_or}
use Rattle.std.specs.FinMap.{FinMap, get}
use Rattle.std.specs.Option.{option_map_or}
use Rattle.events.specs.Table.{first_rule, tag_at}
use Rattle.net_types.specs.Frames.{headers_of}
use Rattle.net_types.specs.Keys.{pair_cmp}
use Rattle.net_types.specs.declared.address.PortNo.{PortNo}
use Rattle.net_types.specs.declared.address.Tag.{Tag}
use Rattle.net_types.specs.declared.headers.Headers.{Headers}
use Rattle.net_types.specs.declared.actions.Action.{Action}
use Rattle.net_types.specs.declared.rule.Rule.{Rule}

-- the actions of the first rule that has the headers; none where no rule has them
abbrev pub actions_for : List Rule → Headers → List Action
actions_for rules h = option_map_or (λ (r : Rule). r.actions) (first_rule rules h) []

-- the actions for a frame that has these headers: of the rules of the port and the frame's tag
abbrev pub decided_on : FinMap pair_cmp (List Rule) → PortNo → List ℕ → Headers → List Action
decided_on table port frame h = option_map_or (λ (t : Tag). actions_for (unwrap_or (get table (record { port = port; tag = t })) []) h) (tag_at frame) []

-- the actions for a frame; none where it has no headers
abbrev pub decided : FinMap pair_cmp (List Rule) → PortNo → List ℕ → List Action
decided table port frame = option_map_or (decided_on table port frame) (headers_of port frame) []
