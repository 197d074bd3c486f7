-- What the owner of a port was told has a place.
use Rattle.std.proofs.Common.{◌≡◌, ◌<◌, List, length, sym, ap, subst, ◌∙◌}
use Rattle.std.specs.Prelude.{Some, slice_get}
use Rattle.std.specs.FinMap.{empty}
use Rattle.std.proofs.lemmas.Option.{slice_get-get_or, unwrap_or-slice_get}
use Rattle.events.specs.State.{State, port_of, told_to}
use Rattle.exchange_laws.proofs.Forwarded.{owner_below}
use Rattle.net_types.specs.declared.address.PortNo.{PortNo}
use Rattle.net_types.specs.declared.route.PortInfo.{PortInfo}
use Rattle.next_hop_pool.specs.Free.{Tags}
use Rattle.exchange_core.specs.View.{IsKept}
use Rattle.exchange_core.specs.declared.programs.Programs.{Programs}

pub owner_place : {s : State} {pool : Tags} {all : List Programs} → IsKept s pool all → (port : PortNo) (q : PortInfo) → port_of s port ≡ Some q → q.owner.0 < length s.told
owner_place kept port q found = subst (λ n. q.owner.0 < n) (sym kept.steady.told) (owner_below kept.steady port q found)

pub owner_told : {s : State} {pool : Tags} {all : List Programs} → IsKept s pool all → (port : PortNo) (q : PortInfo) → port_of s port ≡ Some q → slice_get s.told q.owner.0 ≡ Some (told_to s q.owner)
owner_told {s} kept port q found =
    slice_get-get_or s.told q.owner.0 empty (owner_place kept port q found) ∙ ap Some (sym (unwrap_or-slice_get s.told q.owner.0 empty))
