-- The cubes of the rules that are built are meets of those that count.
use Rattle.std.proofs.Common.{◌≡◌, Bool, true, false, cond, List, [], ◌∷◌, ◌++◌, map, refl, inl, inr, sym, ap, ◌∙◌, subst}
use Rattle.classifier.proofs.LineLemmas.{each-add_lines, each-product}
use Rattle.classifier.specs.Items.{Item}
use Rattle.classifier.specs.Lines.{line, add_lines, product}
use Rattle.classifier.specs.Meaning.{cubes_of}
use Rattle.classifier.specs.declared.join.Join.TheVariants.{Union}
use Rattle.classifier.specs.declared.line.Line.{Line}
use Rattle.net_types.proofs.MeetLemmas.{IsMeet-everything, IsMeet-meet, IsMeet-member}
use Rattle.net_types.proofs.SetLemmas
use Rattle.net_types.specs.Cells.{freed}
use Rattle.net_types.specs.Meets.{IsMeet}
use Rattle.net_types.specs.Sets.{Member, union_over}
use Rattle.net_types.specs.declared.address.Pid.{Pid}
use Rattle.net_types.specs.declared.address.PortNo.{PortNo}
use Rattle.net_types.specs.declared.cube.Cube.{Cube}
use Rattle.net_types.specs.declared.route.Offer.{Offer}
use Rattle.net_types.specs.declared.route.Part.{Part}
use Rattle.block_build.specs.Bounds.{AreMeets, AreTheirMeets}
use Rattle.block_build.specs.Offers.{goes_to}
use Rattle.block_build.specs.Outcomes.{atoms_from}
use Rattle.block_build.specs.Receivers.{discarding, received_lines, receiver, receivers}
use Rattle.block_build.specs.Spreads.{restricted, beside, spread}
use Rattle.block_build.specs.declared.receive.Receiver.{Receiver}
use Rattle.classifier.proofs.ResultLemmas.{cube-stands}

-- ---- the cubes of the sender's and of the receivers' rules

cubes-lines : (items : List Item) (cs : List Cube) (xs : List Line) → cubes_of (map (line items) cs ++ xs) ≡ cs ++ cubes_of xs
cubes-lines items [] xs = refl
cubes-lines items (c ∷ cs) xs = ap (λ ds. c ∷ ds) (cubes-lines items cs xs)

pub cubes-restricted : (port : PortNo) (xs : List Line) → cubes_of (restricted port xs) ≡ union_over (freed port) (cubes_of xs)
cubes-restricted port [] = refl
cubes-restricted port (x ∷ xs) = cubes-lines x.results (freed port x.cube) (restricted port xs) ∙ ap (λ ds. freed port x.cube ++ ds) (cubes-restricted port xs)

pub cubes-received : (hop : PortNo) (xs : List Line) → cubes_of (received_lines hop xs) ≡ cubes_of xs
cubes-received hop [] = refl
cubes-received hop (x ∷ xs) = ap (λ cs. x.cube ∷ cs) (cubes-received hop xs)

-- ---- the rules that are built

pub meets-beside : (atoms : List Cube) (xs ys : List Line) → AreMeets atoms xs → AreMeets atoms ys → AreMeets atoms (beside xs ys)
meets-beside atoms xs ys f g =
    each-add_lines (λ z. IsMeet atoms z.cube) [] (product Union xs ys) (λ z h. elim h [ ])
    (each-product (λ z. IsMeet atoms z.cube) Union xs ys (λ x y c h k e. IsMeet-meet atoms x.cube y.cube c (f x h) (g y k) e))

pub meets-spread : (atoms : List Cube) (left : Bool) (best : Pid) (items : List Item) (xs : List Line) (rs : List Receiver) → AreTheirMeets atoms rs → AreMeets atoms xs → AreMeets atoms (spread left best items xs rs)
meets-spread atoms left best items xs [] theirs f = f
meets-spread atoms left best items xs (r ∷ rs) theirs f =
    meets-spread atoms left best items (cond (goes_to left best items r.who) (beside xs r.lines) xs) rs (λ q k. theirs q (inr k))
    (of (goes_to left best items r.who) (meets-beside atoms xs r.lines f (theirs r (inl refl))))
  where
    of : (b : Bool) → AreMeets atoms (beside xs r.lines) → AreMeets atoms (cond b (beside xs r.lines) xs)
    of true g = g
    of false g = f

-- ---- the atoms that count for a port and a part

module _ (inbound : Pid → List Line) (p : Part) (port : PortNo) (outbound : List Line) where
  abbrev atoms : List Cube
  atoms = atoms_from port (cubes_of outbound) (λ who. cubes_of (inbound who)) p

  received-meets : (o : Offer) → Member o p.offers → AreMeets atoms (received_lines o.port (inbound o.exporter))
  received-meets o stands z h =
      IsMeet-member atoms z.cube
      (SetLemmas.Member-append_right (union_over (freed port) (cubes_of outbound)) (union_over (λ (x : Offer). cubes_of (inbound x.exporter)) p.offers) z.cube
      (SetLemmas.Member-union (λ (x : Offer). cubes_of (inbound x.exporter)) p.offers o z.cube stands
      (subst (Member z.cube) (cubes-received o.port (inbound o.exporter)) (cube-stands (received_lines o.port (inbound o.exporter)) z h))))

  discarding-meets : AreMeets atoms discarding
  discarding-meets z (inl e) = subst (IsMeet atoms) (ap (λ (x : Line). x.cube) (sym e)) (IsMeet-everything atoms)
  discarding-meets z (inr k) = elim k [ ]

  pub their-meets : AreTheirMeets atoms (receivers inbound p.offers)
  their-meets r k =
      let i = SetLemmas.map-Member (receiver inbound) p.offers r k in
      subst (λ (q : Receiver). AreMeets atoms q.lines) (sym i.is) (of i.of.hole (received_lines i.of.port (inbound i.of.exporter)) (received-meets i.of i.stands))
    where
      of : (b : Bool) (ys : List Line) → AreMeets atoms ys → AreMeets atoms (cond b discarding ys)
      of true ys f = discarding-meets
      of false ys f = f

  restricted-meets : AreMeets atoms (restricted port outbound)
  restricted-meets z k =
      IsMeet-member atoms z.cube
      (SetLemmas.Member-append_left (union_over (freed port) (cubes_of outbound)) (union_over (λ (o : Offer). cubes_of (inbound o.exporter)) p.offers) z.cube
      (subst (Member z.cube) (cubes-restricted port outbound) (cube-stands (restricted port outbound) z k)))

  pub own-meets : AreMeets atoms (add_lines [] (restricted port outbound))
  own-meets = each-add_lines (λ z. IsMeet atoms z.cube) [] (restricted port outbound) (λ z k. elim k [ ]) restricted-meets
