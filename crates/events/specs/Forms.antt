-- What is so of the events of lines (this exchange's own rule).
use Rattle.std.specs.Prelude.{◌+◌, ◌≤◌, IsTrue}
use Rattle.events.specs.Lines.{is_name, is_utf8}
use Rattle.events.specs.declared.Event.{Event}
use Rattle.events.specs.declared.Event.TheVariants.{Bad, Exchange, Participant as DeclaresParticipant, Port as DeclaresPort, Update, Down, Export, Outbound, Inbound, Take, Drain, Arp, Resolve, Packet, Frame, Recompile, Work, Table}

-- What is so of the events that lines give.
abbrev pub IsWellFormed : Event → Type 0
IsWellFormed Bad = Unit {0}
IsWellFormed (Exchange base size capacity) = (1 ≤ size) × (size ≤ 65536) × (1 ≤ capacity) × (capacity ≤ 1000000) × (16777215 ≤ base.0) × (base.0 + size ≤ 3758096383)
IsWellFormed (DeclaresParticipant name asn id) = IsTrue (is_name name) × (1 ≤ asn) × (asn ≤ 4294967295)
IsWellFormed (DeclaresPort name number ip mac) = IsTrue (is_name name) × (1 ≤ number.0) × (number.0 ≤ 65279)
IsWellFormed (Update name bytes) = IsTrue (is_name name)
IsWellFormed (Down name) = IsTrue (is_name name)
IsWellFormed (Export name text) = IsTrue (is_name name) × IsTrue (is_utf8 text)
IsWellFormed (Outbound name text) = IsTrue (is_name name) × IsTrue (is_utf8 text)
IsWellFormed (Inbound name text) = IsTrue (is_name name) × IsTrue (is_utf8 text)
IsWellFormed (Take name count) = IsTrue (is_name name) × (1 ≤ count) × (count ≤ 1000000)
IsWellFormed (Drain name) = IsTrue (is_name name)
IsWellFormed (Arp port bytes) = (1 ≤ port.0) × (port.0 ≤ 65279)
IsWellFormed (Resolve port) = (1 ≤ port.0) × (port.0 ≤ 65279)
IsWellFormed (Packet port bytes) = (1 ≤ port.0) × (port.0 ≤ 65279)
IsWellFormed (Frame port bytes) = (1 ≤ port.0) × (port.0 ≤ 65279)
IsWellFormed Recompile = Unit {0}
IsWellFormed (Work units) = (1 ≤ units) × (units ≤ 1000000000)
IsWellFormed Table = Unit {0}
