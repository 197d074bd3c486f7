-- Which updates are taken (this exchange's own rule).
use Rattle.std.specs.Prelude.{ℕ, Bool, nat_eq, [], Option, Some, None, slice_get, if◌then◌else◌}
use Rattle.std.specs.Option.{option_and_then}
use Rattle.net_types.specs.Attributes.{same_option}
use Rattle.net_types.specs.Exports.{asn_of}
use Rattle.net_types.specs.Updates.{first_as, is_oversize}
use Rattle.net_types.specs.declared.address.Pid.{Pid}
use Rattle.net_types.specs.declared.route.Attrs.{Attrs}
use Rattle.net_types.specs.declared.route.Segment.{Segment}
use Rattle.net_types.specs.declared.route.Segment.TheVariants.{Set, Sequence}
use Rattle.net_types.specs.declared.update.Update.{Update}
use Rattle.registry.specs.Registered.{Registered, has_address}
use Rattle.route_server.specs.Rows.{ruled}
use Rattle.route_server.specs.declared.fault.RouteFault.{RouteFault}
use Rattle.route_server.specs.declared.fault.RouteFault.TheVariants.{FirstAs, NextHop, Oversize}

-- the first AS of a sequence
abbrev pub first_in : Segment → Option ℕ
first_in (Set ns) = None
first_in (Sequence ns) = slice_get ns 0

-- the path begins with the participant's AS
abbrev pub begins_with_own : Registered → Pid → Attrs → Bool
begins_with_own names from a = same_option nat_eq (first_as a.path) (Some (asn_of (ruled names []) from))

-- why attributes are refused: the first AS is looked at before the next hop
abbrev pub attrs_refusal : Registered → Pid → Attrs → Option RouteFault
attrs_refusal names from a = if begins_with_own names from a then (if has_address names from a.next_hop then None else Some NextHop) else Some FirstAs

-- where nothing else is refused, an announced prefix that couldn't be told
abbrev pub or_oversize : Bool → Option RouteFault → Option RouteFault
or_oversize oversize (Some fault) = Some fault
or_oversize oversize None = if oversize then Some Oversize else None

-- why an update is refused: its attributes are looked at before its length; one that announces nothing is not
abbrev pub refusal : Registered → Pid → Update → Option RouteFault
refusal names from u = or_oversize (is_oversize u) (option_and_then (attrs_refusal names from) u.attrs)
