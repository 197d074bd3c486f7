-- Each line that isn't a job's has a reply that fits (this exchange's own rule).
use Rattle.std.specs.Prelude.{◌≡◌, false}
use Rattle.events.specs.Forms.{IsWellFormed}
use Rattle.events.specs.After.{next}
use Rattle.events.specs.Fits.{Fits, is_of_job}
use Rattle.events.specs.State.{State}
use Rattle.events.specs.declared.Event.{Event}
use Rattle.events.specs.declared.Event.TheVariants.{Bad, Exchange, Participant as DeclaresParticipant, Port as DeclaresPort, Update, Down, Export, Outbound, Inbound, Take, Drain, Arp, Resolve, Packet, Frame, Recompile, Work, Table}
use Rattle.events.specs.declared.Reply.{Reply}
use Rattle.exchange_laws.specs.Steady.{IsSteady}
use Rattle.net_types.specs.Sets.{Member}
use Rattle.net_types.specs.declared.route.PortInfo.{PortInfo}
use Rattle.exchange_laws.specs.Octets.{AreOctets, IsMac}

-- what a line says in hexadecimal of a port or a datagram are octets
abbrev pub HasOctets : Event → Type 0
HasOctets (DeclaresPort name number ip mac) = IsMac mac
HasOctets (Packet port bytes) = AreOctets bytes
HasOctets Bad = Unit {0}
HasOctets (Exchange base size capacity) = Unit {0}
HasOctets (DeclaresParticipant name asn id) = Unit {0}
HasOctets (Update name bytes) = Unit {0}
HasOctets (Down name) = Unit {0}
HasOctets (Export name text) = Unit {0}
HasOctets (Outbound name text) = Unit {0}
HasOctets (Inbound name text) = Unit {0}
HasOctets (Take name count) = Unit {0}
HasOctets (Drain name) = Unit {0}
HasOctets (Arp port bytes) = Unit {0}
HasOctets (Resolve port) = Unit {0}
HasOctets (Frame port bytes) = Unit {0}
HasOctets Recompile = Unit {0}
HasOctets (Work units) = Unit {0}
HasOctets Table = Unit {0}

-- each declared port has a MAC
abbrev pub PortsHaveMacs : State → Type 0
PortsHaveMacs s = (q : PortInfo) → Member q s.routing.ports → IsMac q.mac

-- any line, a job's too, and any reply leave each port its MAC
abbrev pub PortsKeepMacs : Type 0
PortsKeepMacs = (s : State) (e : Event) (r : Reply) → PortsHaveMacs s → HasOctets e → PortsHaveMacs (next s e r)

-- in a steady state some reply to each line that isn't a job's fits
abbrev pub LinesHaveReplies : Type 0
LinesHaveReplies = (s : State) (e : Event) → IsSteady s → PortsHaveMacs s → IsWellFormed e → is_of_job e ≡ false → HasOctets e → (r : Reply) × Fits s e r
