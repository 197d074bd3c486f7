-- The cubes that the rules of a pair may have (this exchange's own rule).
use Rattle.std.specs.Prelude.{nat_eq, List, [], ◌∷◌, ◌++◌, Option, Some, None, if◌then◌else◌}
use Rattle.net_types.specs.Answers.{Policies, policy_of}
use Rattle.net_types.specs.Policies.{atoms}
use Rattle.net_types.specs.Sets.{union_over}
use Rattle.net_types.specs.declared.address.PortNo.{PortNo}
use Rattle.net_types.specs.declared.cube.Cube.{Cube}
use Rattle.net_types.specs.declared.route.Offer.{Offer}
use Rattle.net_types.specs.declared.route.Part.{Part}

-- a cube whose inport is free or is this port has its inport freed; one of another port is left out
abbrev pub freed_from : PortNo → Cube → Option PortNo → List Cube
freed_from port c None = c ∷ []
freed_from port c (Some q) = if nat_eq q.0 port.0 then record c { inport = None } ∷ [] else []

-- an atom as a sender's port sees it: another inport leaves it out, and its own is freed
abbrev pub freed : PortNo → Cube → List Cube
freed port c = freed_from port c c.inport

-- the atoms of the sender's outbound policy at the port, and of the inbound policies of the participants in the offers
abbrev pub cell_atoms : Policies → PortNo → Part → List Cube
cell_atoms ps port p =
    union_over (freed port) (atoms (policy_of ps.outbound p.sender))
    ++ union_over (λ (o : Offer). atoms (policy_of ps.inbound o.exporter)) p.offers
