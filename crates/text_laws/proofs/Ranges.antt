-- The cubes of policies that are read have values in range, and so have those that are made of them.
use Rattle.std.proofs.Common.{◌≡◌, ℕ, Bool, true, false, cond, nat_eq, List, [], ◌∷◌, refl, slice_get}
use Rattle.std.specs.Prelude.{Option, Some, None, unwrap_or}
use Rattle.net_types.proofs.FindLemmas.{slice_get-Member}
use Rattle.net_types.specs.Answers.{Policies, policy_of}
use Rattle.net_types.specs.Cells.{cell_atoms, freed, freed_from}
use Rattle.net_types.specs.Cubes.{IsInRange}
use Rattle.net_types.specs.Meets.{IsMeet}
use Rattle.net_types.specs.Policies.{Policy, Drop, atoms}
use Rattle.net_types.specs.Sets.{Each, union_over}
use Rattle.net_types.specs.declared.address.PortNo.{PortNo}
use Rattle.net_types.specs.declared.cube.Cube.{Cube}
use Rattle.net_types.specs.declared.route.Offer.{Offer}
use Rattle.net_types.specs.declared.route.Part.{Part}
use Rattle.events.specs.State.{State, ArePolicies, AreRead}
use Rattle.text_laws.proofs.Atoms.{OfCube, atoms_hold, meets_hold, union_holds}
use Rattle.text_laws.proofs.Read.{OctetFits, PolicyFits, PortFits, WordFits, read_fits}
use Rattle.net_types.proofs.MemberLemmas.{each_append, each_of}

-- ---- policies

each_fits : (texts : List (List ℕ)) (ps : List Policy) → AreRead texts ps → Each PolicyFits ps
each_fits [] [] are = tt
each_fits [] (p ∷ ps) are = absurd are
each_fits (text ∷ texts) [] are = absurd are
each_fits (text ∷ texts) (p ∷ ps) are = (read_fits text p are.0, each_fits texts ps are.1)

-- a policy that isn't there drops
one_fits : (ps : List Policy) (k : ℕ) → Each PolicyFits ps → PolicyFits (unwrap_or (slice_get ps k) Drop)
one_fits ps k each = by (slice_get ps k) refl
  where
    by : (o : Option Policy) → slice_get ps k ≡ o → PolicyFits (unwrap_or o Drop)
    by None e = tt
    by (Some p) e = each_of PolicyFits ps p each (slice_get-Member ps k p e)

-- ---- cubes

-- the values of a cube are in the ranges that the tests of a policy that is read have
abbrev Fits : Cube → Type 0
Fits c = OfCube PortFits OctetFits WordFits WordFits c

freed_fit : (port : PortNo) (c : Cube) (o : Option PortNo) → Fits c → Each Fits (freed_from port c o)
freed_fit port c None is = (is, tt)
freed_fit port c (Some q) is = by (nat_eq q.0 port.0)
  where
    by : (b : Bool) → Each Fits (cond b (record c { inport = None } ∷ []) [])
    by true = (record { inport = tt; proto = is.proto; sport = is.sport; dport = is.dport }, tt)
    by false = tt

all_freed : (port : PortNo) (cs : List Cube) → Each Fits cs → Each Fits (union_over (freed port) cs)
all_freed port [] each = tt
all_freed port (c ∷ cs) each = each_append Fits (freed port c) (union_over (freed port) cs) (freed_fit port c c.inport each.0) (all_freed port cs each.1)

atoms_fit : (p : Policy) → PolicyFits p → Each Fits (atoms p)
atoms_fit = atoms_hold PortFits OctetFits WordFits WordFits

-- each meet of the atoms of a cell
pub cells_in_range : (s : State) (ps : Policies) → ArePolicies s ps → (port : PortNo) (part : Part) (c : Cube) → IsMeet (cell_atoms ps port part) c → IsInRange c
cells_in_range s ps are port part c is =
    let own : Each Fits (union_over (freed port) (atoms (policy_of ps.outbound part.sender))) =
    all_freed port (atoms (policy_of ps.outbound part.sender)) (atoms_fit (policy_of ps.outbound part.sender) (one_fits ps.outbound part.sender.0 (each_fits s.outbound ps.outbound are.outbound))) in
    let theirs : Each Fits (union_over (λ (o : Offer). atoms (policy_of ps.inbound o.exporter)) part.offers) =
    union_holds Fits (λ (o : Offer). atoms (policy_of ps.inbound o.exporter)) part.offers (λ o. atoms_fit (policy_of ps.inbound o.exporter) (one_fits ps.inbound o.exporter.0 (each_fits s.inbound ps.inbound are.inbound))) in
    let fits : Fits c = meets_hold PortFits OctetFits WordFits WordFits (cell_atoms ps port part) c (each_append Fits _ _ own theirs) is in
    record { inport = fits.inport; proto = fits.proto; sport = fits.sport; dport = fits.dport }
