-- What a proposal says.
use Rattle.std.specs.Prelude.{◌≡◌, ◌<◌, length, nat_eq, not, List, map, filter, slice_set, Option, Some, None, unwrap_or}
use Rattle.std.specs.List.{list_any}
use Rattle.net_types.specs.Changes.{best_attrs, AreTouched}
use Rattle.net_types.specs.Exports.{Routing, named_by}
use Rattle.net_types.specs.Routes.{best, pids}
use Rattle.net_types.specs.Signatures.{signature, trimmed}
use Rattle.net_types.specs.declared.address.Pid.{Pid}
use Rattle.net_types.specs.declared.export.ExportRule.{ExportRule}
use Rattle.net_types.specs.declared.prefix.Prefix.{Prefix}
use Rattle.net_types.specs.declared.route.Attrs.{Attrs}
use Rattle.net_types.specs.declared.route.Part.{Part}
use Rattle.route_server.specs.Served.{AreOwned, Reaches}
use Rattle.route_server.specs.declared.change.Change.{Change}

-- the rows that prefixes get, the rules where they become others, whom a participant's outbound policy names where that
-- becomes another, and the touched prefixes, each with its signature and each participant's best attributes afterwards
pub record Proposed : Type 0 where
  pub changes : List Change
  pub rules : Option (List (List ExportRule))
  pub named : Option (Pid × List Pid)
  pub touched : List Prefix
  pub sigs : List (List Part)
  pub bests : List (List (Option Attrs))

-- whom all outbound policies name, where that of one participant becomes another
abbrev pub named_with : Option (Pid × List Pid) → List (List Pid) → List (List Pid)
named_with None all = all
named_with (Some (who, pids)) all = slice_set all who.0 pids

-- those that were named before and are named still
abbrev pub both : List Pid → List Pid → List Pid
both old new = filter (λ (p : Pid). list_any (λ (q : Pid). nat_eq q.0 p.0) new) old

-- those that are named now and weren't before
abbrev pub added : List Pid → List Pid → List Pid
added old new = filter (λ (p : Pid). not (list_any (λ (q : Pid). nat_eq q.0 p.0) old)) new

-- where a participant's outbound policy names others from now on, only those count that it named before and names still
abbrev pub trimmed_routing : Routing → Pid → List Pid → Routing
trimmed_routing r who named = record r { named = slice_set r.named who.0 (both (named_by r who) named) }

-- signatures that are trimmed by the new names of a participant are those of the routing in which only those count that
-- are named still
abbrev pub TrimmedSignatures : Type 0
TrimmedSignatures = (r : Routing) (who : Pid) (named : List Pid) (q : Prefix) → who.0 < length r.named → trimmed who named (signature r q) ≡ signature (trimmed_routing r who named) q

-- and the best routes in it are what they were
abbrev pub TrimmedBests : Type 0
TrimmedBests = (r : Routing) (who : Pid) (named : List Pid) (to : Pid) (q : Prefix) → best (trimmed_routing r who named) to q ≡ best r to q

-- A proposal has exactly what is another in the second routing than in the first, as it is there, and its changes, rules
-- and names make the second of the first.
pub record IsProposal (r s : Routing) (p : Proposed) : Type 0 where
  pub touched : AreTouched r s p.touched
  pub sigs : p.sigs ≡ map (signature s) p.touched
  pub bests : p.bests ≡ map (λ q. map (λ to. best_attrs s to q) (pids s)) p.touched
  pub routes : Reaches p.changes r.routes s.routes
  pub rules : unwrap_or p.rules r.rules ≡ s.rules
  pub named : named_with p.named r.named ≡ s.named
  -- where every route's participant owns the port of its next hop, this stays so
  pub owned : AreOwned r → AreOwned s
