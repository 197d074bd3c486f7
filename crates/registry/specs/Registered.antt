-- What is declared, and what is found in it (this exchange's own rule).
use Rattle.std.specs.Prelude.{ℕ, Bool, ◌&&◌, ◌||◌, nat_eq, List, [], ◌∷◌, ◌++◌, map, filter, find, Option}
use Rattle.std.specs.List.{list_any}
use Rattle.net_types.specs.Exports.{participant_named}
use Rattle.net_types.specs.Octets.{same_octets}
use Rattle.net_types.specs.declared.address.Ip.{Ip}
use Rattle.net_types.specs.declared.address.Mac.{Mac}
use Rattle.net_types.specs.declared.address.Pid.{Pid}
use Rattle.net_types.specs.declared.address.PortNo.{PortNo}
use Rattle.net_types.specs.declared.route.Participant.{Participant}
use Rattle.net_types.specs.declared.route.PortInfo.{PortInfo}

-- participants and ports, in order of declaration; a participant is its place in the list
pub record Registered : Type 0 where
  pub participants : List Participant
  pub ports : List PortInfo

-- the participant of a name
abbrev pub named : Registered → List ℕ → Option Pid
named r name = participant_named r.participants name

-- the port of a number
abbrev pub port_of : Registered → PortNo → Option PortInfo
port_of r number = find (λ (q : PortInfo). nat_eq q.number.0 number.0) r.ports

-- the port that has an address
abbrev pub port_with : Registered → Ip → Option PortInfo
port_with r ip = find (λ (q : PortInfo). nat_eq q.ip.0 ip.0) r.ports

-- the first port of a participant
abbrev pub first_port : Registered → Pid → Option PortInfo
first_port r who = find (λ (q : PortInfo). nat_eq q.owner.0 who.0) r.ports

-- the numbers of a participant's ports
abbrev pub ports_of : Registered → Pid → List PortNo
ports_of r who = map (λ (q : PortInfo). q.number) (filter (λ (q : PortInfo). nat_eq q.owner.0 who.0) r.ports)

-- one of a participant's ports has an address
abbrev pub has_address : Registered → Pid → Ip → Bool
has_address r who ip = list_any (λ (q : PortInfo). nat_eq q.owner.0 who.0 && nat_eq q.ip.0 ip.0) r.ports

-- some port has the number, the address or the hardware address
abbrev pub is_taken : Registered → PortNo → Ip → Mac → Bool
is_taken r number ip mac = list_any (λ (q : PortInfo). nat_eq q.number.0 number.0 || nat_eq q.ip.0 ip.0 || same_octets q.mac.0 mac.0) r.ports

-- one participant more
abbrev pub with_participant : Registered → Participant → Registered
with_participant r m = record { participants = r.participants ++ m ∷ []; ports = r.ports }

-- one port more
abbrev pub with_port : Registered → PortInfo → Registered
with_port r q = record { participants = r.participants; ports = r.ports ++ q ∷ [] }
