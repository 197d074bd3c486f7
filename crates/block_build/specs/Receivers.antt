-- The rules of receivers, as ports to leave by.
use Rattle.std.specs.Prelude.{◌≡◌, Option, Some, None, List, [], ◌∷◌, map, if◌then◌else◌}
use Rattle.classifier.specs.Items.{Item, add}
use Rattle.classifier.specs.Lines.{line}
use Rattle.classifier.specs.declared.line.Line.{Line}
use Rattle.net_types.specs.Cubes.{everything}
use Rattle.net_types.specs.Headers.{no_change}
use Rattle.net_types.specs.Sets.{Member, union_over}
use Rattle.net_types.specs.declared.address.Pid.{Pid}
use Rattle.net_types.specs.declared.address.PortNo.{PortNo}
use Rattle.net_types.specs.declared.headers.Assign.{Assign}
use Rattle.net_types.specs.declared.headers.Loc.{Loc}
use Rattle.net_types.specs.declared.headers.Loc.TheVariants.{Stay, To, Out, Nowhere}
use Rattle.net_types.specs.declared.route.Offer.{Offer}
use Rattle.block_build.specs.declared.receive.Receiver.{Receiver}

-- the port by which a packet leaves, with the port of the NEXT_HOP
abbrev pub exit_of : PortNo → Loc → Option PortNo
exit_of hop Stay = Some hop
exit_of hop (To who) = None
exit_of hop (Out port) = Some port
exit_of hop Nowhere = None

-- the items with one that leaves by a port, where there is a port
abbrev pub add_exit : List Item → Assign → Option PortNo → List Item
add_exit kept set None = kept
add_exit kept set (Some port) = add kept (set, Out port)

-- the items with the ports by which others leave
abbrev pub add_exits : PortNo → List Item → List Item → List Item
add_exits hop kept [] = kept
add_exits hop kept (i ∷ items) = add_exits hop (add_exit kept i.0 (exit_of hop i.1)) items

-- what leaves by a port, where there is one
abbrev pub exit_at : Assign → Option PortNo → List Item
exit_at set None = []
exit_at set (Some port) = (set, Out port) ∷ []

-- the ports by which items leave, one after another
abbrev pub exits_in : PortNo → List Item → List Item
exits_in hop items = union_over (λ (i : Item). exit_at i.0 (exit_of hop i.1)) items

-- none of the items goes there
abbrev pub NoneGoes : Loc → List Item → Type 0
NoneGoes loc items = (i : Item) → Member i items → i.1 ≡ loc → ⊥

-- no item that stays leaves as one does that leaves by the port of the NEXT_HOP anyway
abbrev pub AreApart : PortNo → List Item → Type 0
AreApart hop items = (i j : Item) → Member i items → Member j items → i.1 ≡ Stay → j.1 ≡ Out hop → ⊥

-- how a receiver's results leave, and the packet as it is where there are none
abbrev pub received_items : PortNo → List Item → List Item
received_items hop [] = (no_change, Out hop) ∷ []
received_items hop (i ∷ items) = add_exits hop [] (i ∷ items)

-- a receiver's rules, as ports to leave by
abbrev pub received_lines : PortNo → List Line → List Line
received_lines hop [] = []
received_lines hop (x ∷ xs) = line (received_items hop x.results) x.cube ∷ received_lines hop xs

-- the rules of a hole: everything is discarded
abbrev pub discarding : List Line
discarding = line [] everything ∷ []

-- a participant in the offers, with its rules as ports to leave by; by a hole nothing leaves, whatever the rules are
abbrev pub receiver : (Pid → List Line) → Offer → Receiver
receiver inbound o = record { who = o.exporter; lines = if o.hole then discarding else received_lines o.port (inbound o.exporter) }

-- the participants in the offers, each with its rules
abbrev pub receivers : (Pid → List Line) → List Offer → List Receiver
receivers inbound offers = map (receiver inbound) offers

-- the rules as ports to leave by, with the port of the NEXT_HOP, none for a hole
abbrev pub lines_by : Option PortNo → List Line → List Line
lines_by None ys = discarding
lines_by (Some hop) ys = received_lines hop ys

-- the one rule that there is, for all headers, where its items are given
abbrev pub IsAlone : Option (List Item) → List Line → Type 0
IsAlone None ys = Unit {0}
IsAlone (Some items) ys = ys ≡ line items everything ∷ []
