-- Which pairs of the table another policy builds anew, by what is declared and what is kept (this exchange's own rule).
use Rattle.std.specs.Prelude.{nat_eq, Bool, false, List}
use Rattle.std.specs.FinMap.{FinMap, get}
use Rattle.std.specs.Option.{option_and_then, option_map_or}
use Rattle.events.specs.Sound.{part_of}
use Rattle.net_types.specs.Answers.{is_offered}
use Rattle.net_types.specs.Keys.{tag_cmp}
use Rattle.net_types.specs.declared.address.Pid.{Pid}
use Rattle.net_types.specs.declared.route.Part.{Part}
use Rattle.net_types.specs.declared.route.PortInfo.{PortInfo}
use Rattle.net_types.specs.declared.rule.Pair.{Pair}
use Rattle.registry.specs.Registered.{Registered, port_of}

-- the pair's port is the participant's
abbrev pub is_from : Registered → Pid → Pair → Bool
is_from names who pair = option_map_or (λ (q : PortInfo). nat_eq q.owner.0 who.0) (port_of names pair.port) false

-- the participant stands among the offers of the part that the owner of the pair's port has
abbrev pub is_to : Registered → FinMap tag_cmp (List Part) → Pid → Pair → Bool
is_to names kept who pair =
    option_map_or (λ (part : Part). is_offered part.offers who)
    (option_and_then (λ (q : PortInfo). option_and_then (λ sig. part_of sig q.owner) (get kept pair.tag)) (port_of names pair.port)) false
