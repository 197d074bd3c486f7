-- How a packet leaves by what the sender and the receivers make of it, whatever makes it: policies, or classifiers.
use Rattle.std.specs.Prelude.{List, [], ◌++◌}
use Rattle.net_types.specs.Answers.{Leaving, is_offered, offered_hole, offered_port, or_default, or_unchanged, sent_to}
use Rattle.net_types.specs.Cells.{freed}
use Rattle.net_types.specs.Policies.{Packet}
use Rattle.net_types.specs.Sets.{union_over}
use Rattle.net_types.specs.declared.address.Pid.{Pid}
use Rattle.net_types.specs.declared.address.PortNo.{PortNo}
use Rattle.net_types.specs.declared.cube.Cube.{Cube}
use Rattle.net_types.specs.declared.headers.Headers.{Headers}
use Rattle.net_types.specs.declared.headers.Loc.{Loc}
use Rattle.net_types.specs.declared.headers.Loc.TheVariants.{Stay, To, Out, Nowhere}
use Rattle.net_types.specs.declared.route.Offer.{Offer}
use Rattle.net_types.specs.declared.route.Part.{Part}

-- what is made of a packet that is on no way yet
abbrev pub Makes : Type 0
Makes = Headers → List Packet

-- what becomes of a packet that was sent there, with the port of each participant's NEXT_HOP
abbrev pub received_from : (Pid → Makes) → (Pid → PortNo) → Headers → Loc → List Leaving
received_from inbound port h (To who) = or_unchanged (port who) h (inbound who h)
received_from inbound port h Stay = []
received_from inbound port h Nowhere = []
received_from inbound port h (Out n) = []

-- where the sender's results go, with default forwarding; what goes to a hole is discarded
abbrev pub sent_from : Part → List Packet → List Loc
sent_from p packets =
    or_default (offered_hole p.offers) p.best (union_over (λ (packet : Packet). sent_to (is_offered p.offers) (offered_hole p.offers) p.best packet.1) packets)

-- a part's answer by what the sender makes of a packet and what each receiver does
abbrev pub answer_from : Makes → (Pid → Makes) → Part → Headers → List Leaving
answer_from outbound inbound p h = union_over (received_from inbound (offered_port p.offers) h) (sent_from p (outbound h))

-- the cubes that count for a port and a part: those of the sender at the port, and those of the participants in the offers
abbrev pub atoms_from : PortNo → List Cube → (Pid → List Cube) → Part → List Cube
atoms_from port outbound inbound p = union_over (freed port) outbound ++ union_over (λ (o : Offer). inbound o.exporter) p.offers
