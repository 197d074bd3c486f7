-- Which pairs of the table another policy builds anew, by what is declared and what is kept (this exchange's own rule).
use Rattle.std.specs.Prelude.{◌≡◌, ◌≤◌, nat_eq, nat_lt, Bool, true, false, ◌&&◌, List, is_some}
use Rattle.std.specs.FinMap.{FinMap, get}
use Rattle.std.specs.Option.{option_and_then, option_map_or}
use Rattle.events.specs.Sound.{part_of}
use Rattle.net_types.specs.Answers.{is_offered}
use Rattle.net_types.specs.Keys.{pair_cmp, tag_cmp}
use Rattle.net_types.specs.declared.address.Pid.{Pid}
use Rattle.net_types.specs.declared.address.PortNo.{PortNo}
use Rattle.net_types.specs.declared.route.Part.{Part}
use Rattle.net_types.specs.declared.route.PortInfo.{PortInfo}
use Rattle.net_types.specs.declared.rule.Pair.{Pair}
use Rattle.net_types.specs.declared.rule.Rule.{Rule}
use Rattle.registry.specs.Registered.{Registered, port_of}

-- the pair is of the port
abbrev pub is_at : PortNo → Pair → Bool
is_at port pair = nat_eq pair.port.0 port.0

-- a pair is of the same port as another one and has a greater tag
abbrev pub is_later : Pair → Pair → Bool
is_later last pair = nat_eq pair.port.0 last.port.0 && nat_lt last.tag.0 pair.tag.0

-- the tags of the pairs of a table are those of a pool, which start with 1
abbrev pub AreTagged : FinMap pair_cmp (List Rule) → Type 0
AreTagged table = (pair : Pair) → is_some (get table pair) ≡ true → 1 ≤ pair.tag.0

-- the pair's port is the participant's
abbrev pub is_from : Registered → Pid → Pair → Bool
is_from names who pair = option_map_or (λ (q : PortInfo). nat_eq q.owner.0 who.0) (port_of names pair.port) false

-- the participant stands among the offers of the part that the owner of the pair's port has
abbrev pub is_to : Registered → FinMap tag_cmp (List Part) → Pid → Pair → Bool
is_to names kept who pair =
    option_map_or (λ (part : Part). is_offered part.offers who)
    (option_and_then (λ (q : PortInfo). option_and_then (λ sig. part_of sig q.owner) (get kept pair.tag)) (port_of names pair.port)) false
