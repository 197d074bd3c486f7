-- The actions of a rule: each once, in the order in which they are printed (this exchange's own rule).
use Rattle.std.specs.Prelude.{Bool, List, [], ◌∷◌, ◌++◌}
use Rattle.std.specs.Option.{option_cmp}
use Rattle.std.specs.Ordering.{is_lt, nat_cmp, ordering_then}
use Rattle.std.specs.declared.cmp.Ordering.{Ordering}
use Rattle.net_types.specs.Keys.{ip_cmp}
use Rattle.net_types.specs.Maps.{ordered}
use Rattle.net_types.specs.Sets.{IsRising}
use Rattle.net_types.specs.declared.headers.Assign.{Assign}
use Rattle.net_types.specs.declared.actions.Action.{Action}

-- assignments by srcip, dstip, srcport and dstport, an absent field before a present one
abbrev pub assign_cmp : Assign → Assign → Ordering
assign_cmp a b =
    ordering_then (option_cmp ip_cmp a.src b.src) (ordering_then (option_cmp ip_cmp a.dst b.dst) (ordering_then (option_cmp nat_cmp a.sport b.sport) (option_cmp nat_cmp a.dport b.dport)))

-- actions by port, and then by what they set
abbrev pub action_cmp : Action → Action → Ordering
action_cmp a b = ordering_then (nat_cmp a.port.0 b.port.0) (assign_cmp a.set b.set)

-- an action stands before another
abbrev pub is_before : Action → Action → Bool
is_before a b = is_lt (action_cmp a b)

-- Each stands before all that follow, so none comes twice: `2 + 2[dstport=80] + 3` is in order, and neither `3 + 2` nor
-- `2 + 2` is.
abbrev pub AreInOrder : List Action → Type 0
AreInOrder actions = IsRising is_before actions

-- the actions with one more: in order, each once
abbrev pub with_action : List Action → Action → List Action
with_action actions a = ordered action_cmp (actions ++ a ∷ [])
