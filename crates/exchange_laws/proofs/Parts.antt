-- What a part of a signature depends on, and that the parts of signatures are whole.
use Rattle.std.proofs.Common.{◌≡◌, ℕ, zero, suc, ◌+◌, ◌≤◌, ◌<◌, Bool, true, false, cond, nat_eq, List, [], ◌∷◌, ◌++◌, length, filter, map, sym, ap, subst, ◌∙◌, refl, arith, inl, inr}
use Rattle.std.specs.Prelude.{Option, Some, None, is_some}
use Rattle.std.specs.List.{filter_map, cons_option, list_any}
use Rattle.std.specs.Option.{option_map}
use Rattle.std.proofs.lemmas.Bool.{eqb-true, or_left}
use Rattle.std.proofs.lemmas.Option.{cond_some, option_and_then_some}
use Rattle.net_types.specs.Answers.{Leaving, Policies, is_offered, offered_hole, offered_port, or_default, part_answer, policy_of, received, received_at, sent, sent_to, towards}
use Rattle.net_types.specs.Cells.{cell_atoms, freed}
use Rattle.net_types.specs.Exports.{Routing, is_given, named_by, route}
use Rattle.net_types.specs.Policies.{Packet, Policy, atoms, den}
use Rattle.net_types.specs.Routes.{Candidate, best, candidate, candidates, given, numbers, pids}
use Rattle.net_types.specs.Sets.{HasNoRepeats, Member, union_over}
use Rattle.net_types.specs.Signatures.{counts, offer, offers, part, signature, trimmed_part}
use Rattle.net_types.specs.declared.address.Pid.{Pid}
use Rattle.net_types.specs.declared.address.PortNo.{PortNo}
use Rattle.net_types.specs.declared.cube.Cube.{Cube}
use Rattle.net_types.specs.declared.headers.Headers.{Headers}
use Rattle.net_types.specs.declared.headers.Loc.{Loc}
use Rattle.net_types.specs.declared.headers.Loc.TheVariants.{Stay, To, Out, Nowhere}
use Rattle.net_types.specs.declared.prefix.Prefix.{Prefix}
use Rattle.net_types.specs.declared.route.Attrs.{Attrs}
use Rattle.net_types.specs.declared.route.Offer.{Offer}
use Rattle.net_types.specs.declared.route.Part.{Part}
use Rattle.net_types.specs.declared.rule.Rule.{Rule}
use Rattle.net_types.proofs.FindLemmas.{any_at}
use Rattle.net_types.proofs.PassLemmas.{is_some-any}
use Rattle.net_types.proofs.RisingLemmas.{filter-Member, Member-filter}
use Rattle.net_types.proofs.SetLemmas.{Member-map, given_by, map-Member, map-map, union-Member}
use Rattle.events.specs.Sound.{IsRight, IsRightBy}
use Rattle.events.proofs.Candidates.{IsOfferedBy}
use Rattle.events.proofs.Routed.{best_offered, part_with}
use Rattle.exchange_laws.proofs.Lists.{numbers_range}
use Rattle.exchange_laws.specs.Whole.{IsWhole}
use Rattle.net_types.proofs.WidthTests.{any_found}

-- ---- whom the sender's policy sends to

-- lists of what functions give alike of each member are one
pub union_on : {A B : Type 0} (f g : A → List B) (xs : List A) → ((x : A) → Member x xs → f x ≡ g x) → union_over f xs ≡ union_over g xs
union_on f g [] h = refl
union_on f g (x ∷ xs) h = ap (λ ys. ys ++ union_over f xs) (h x (inl refl)) ∙ ap (λ ys. g x ++ ys) (union_on f g xs (λ y m. h y (inr m)))

module _ (exporter hole : Pid → Bool) (chosen who : Pid) where
  towards_case : (k : Pid) (b : Bool) → To who ≡ cond b Nowhere (To k) → who ≡ k
  towards_case k true e = absurd (cc)
  towards_case k false e = cc

  one_towards : (k : Pid) → exporter k ≡ true → Member (To who) (towards hole k ∷ []) → exporter who ≡ true
  one_towards k exports (inl e) = ap exporter (towards_case k (hole k) e) ∙ exports
  one_towards k exports (inr m) = absurd m

  to_case : (k : Pid) (b : Bool) → exporter k ≡ b → Member (To who) (cond b (towards hole k ∷ []) []) → exporter who ≡ true
  to_case k true is m = one_towards k is m
  to_case k false is m = absurd m

  sent_exports : (l : Loc) → exporter chosen ≡ true → Member (To who) (sent_to exporter hole chosen l) → exporter who ≡ true
  sent_exports Stay best m = one_towards chosen best m
  sent_exports (To k) best m = to_case k (exporter k) refl m
  sent_exports Nowhere best (inl e) = absurd (cc)
  sent_exports Nowhere best (inr m) = absurd m
  sent_exports (Out port) best m = absurd m

  default_exports : (ls : List Loc) → exporter chosen ≡ true → (Member (To who) ls → exporter who ≡ true) → Member (To who) (or_default hole chosen ls) → exporter who ≡ true
  default_exports [] best of m = one_towards chosen best m
  default_exports (l ∷ ls) best of m = of m

  -- what is sent to a participant is sent to an exporter, where the chosen one is one
  pub sent_to_exporters : (names : List ℕ → Option Pid) (outbound : Policy) (h : Headers) → exporter chosen ≡ true → Member (To who) (sent names outbound exporter hole chosen h) → exporter who ≡ true
  sent_to_exporters names outbound h best m =
      let where_to : Packet → List Loc = λ packet. sent_to exporter hole chosen packet.1 in
      let packets : List Packet = den names outbound h Stay in
      default_exports (union_over where_to packets) best (λ there. let from = union-Member where_to packets (To who) there in sent_exports from.of.1 best from.gives) m

-- ---- the policies that a part depends on

-- A part gives the same by policies that agree on its sender, and on the participants in its offers.
pub part_answer_alike : (ps qs : Policies) (part : Part) → ps.named ≡ qs.named → policy_of ps.outbound part.sender ≡ policy_of qs.outbound part.sender
    → ((o : Offer) → Member o part.offers → policy_of ps.inbound o.exporter ≡ policy_of qs.inbound o.exporter) → is_offered part.offers part.best ≡ true → (h : Headers) → part_answer ps part h ≡ part_answer qs part h
part_answer_alike ps qs part named outbound inbound offered h =
    union_on (received_at ps port h) (received_at qs port h) (by ps) alike
    ∙ ap (λ (names : List ℕ → Option Pid). union_over (received_at qs port h) (sent names (policy_of ps.outbound part.sender) exporter hole part.best h)) named
    ∙ ap (λ (outbound : Policy). union_over (received_at qs port h) (sent qs.named outbound exporter hole part.best h)) outbound
  where
    exporter : Pid → Bool
    exporter = is_offered part.offers

    hole : Pid → Bool
    hole = offered_hole part.offers

    port : Pid → PortNo
    port = offered_port part.offers

    by : Policies → List Loc
    by x = sent x.named (policy_of x.outbound part.sender) exporter hole part.best h

    alike : (l : Loc) → Member l (by ps) → received_at ps port h l ≡ received_at qs port h l
    alike Stay m = refl
    alike Nowhere m = refl
    alike (Out n) m = refl
    alike (To who) m =
        let there = any_found (λ (o : Offer). nat_eq o.exporter.0 who.0) part.offers (sent_to_exporters exporter hole part.best who ps.named (policy_of ps.outbound part.sender) h offered m) in
        let same : there.0.exporter.0 ≡ who.0 = eqb-true there.0.exporter.0 who.0 there.1.passes in
        let policies : policy_of ps.inbound who ≡ policy_of qs.inbound who =
        ap (λ n. policy_of ps.inbound (record { 0 = n })) (sym same) ∙ inbound there.0 there.1.stands ∙ ap (λ n. policy_of qs.inbound (record { 0 = n })) same in
        ap (λ (names : List ℕ → Option Pid). received names (policy_of ps.inbound who) (port who) h) named
        ∙ ap (λ (p : Policy). received qs.named p (port who) h) policies

-- and its pairs have the same cells
pub cell_atoms_alike : (ps qs : Policies) (part : Part) (port : PortNo) → policy_of ps.outbound part.sender ≡ policy_of qs.outbound part.sender
    → ((o : Offer) → Member o part.offers → policy_of ps.inbound o.exporter ≡ policy_of qs.inbound o.exporter) → cell_atoms ps port part ≡ cell_atoms qs port part
cell_atoms_alike ps qs part port outbound inbound =
    let of : Policies → Offer → List Cube = λ x o. atoms (policy_of x.inbound o.exporter) in
    ap (λ (p : Policy). union_over (freed port) (atoms p) ++ union_over (of ps) part.offers) outbound
    ∙ ap (λ cubes. union_over (freed port) (atoms (policy_of qs.outbound part.sender)) ++ cubes) (union_on (of ps) (of qs) part.offers (λ o m. ap atoms (inbound o m)))

-- so rules that are right by the one are right by the other
pub right_alike : (ps qs : Policies) (part : Part) (port : PortNo) (rules : List Rule) → ps.named ≡ qs.named → policy_of ps.outbound part.sender ≡ policy_of qs.outbound part.sender
    → ((o : Offer) → Member o part.offers → policy_of ps.inbound o.exporter ≡ policy_of qs.inbound o.exporter) → is_offered part.offers part.best ≡ true → IsRight ps part port rules → IsRight qs part port rules
right_alike ps qs part port rules named outbound inbound offered right =
    let answers : part_answer ps part ≡ part_answer qs part = λ i h. part_answer_alike ps qs part named outbound inbound offered h i in
    subst (λ (gives : Headers → List Leaving). IsRightBy port gives (cell_atoms qs port part) rules) answers
    (subst (λ cubes. IsRightBy port (part_answer ps part) cubes rules) (cell_atoms_alike ps qs part port outbound inbound) right)

-- ---- parts are whole

-- a filter leaves no repeats where there were none
filter_once : {A : Type 0} (key : A → ℕ) (test : A → Bool) (xs : List A) → HasNoRepeats (map key xs) → HasNoRepeats (map key (filter test xs))
filter_once key test [] once = tt
filter_once key test (x ∷ xs) once = by (test x) (filter_once key test xs once.1)
  where
    apart : Member (key x) (map key (filter test xs)) → ⊥
    apart m =
        let image = map-Member key (filter test xs) (key x) m in
        once.0 (subst (λ k. Member k (map key xs)) (sym image.is) (Member-map key xs image.of (filter-Member test xs image.of image.stands).stands))

    by : (b : Bool) → HasNoRepeats (map key (filter test xs)) → HasNoRepeats (map key (cond b (x ∷ filter test xs) (filter test xs)))
    by true later = (apart, later)
    by false later = later

module _ {A : Type 0} (f : Pid → Option A) (key : A → ℕ) (own : (k : Pid) (x : A) → f k ≡ Some x → key x ≡ k.0) where
  -- what participants in a row give is in their range
  given_range : (low count : ℕ) (x : A) → Member x (filter_map f (map (λ n. let who : Pid = record { 0 = n } in who) (numbers low count))) → (low ≤ key x) × (key x < low + count)
  given_range low count x m =
      let all : List Pid = map (λ n. let who : Pid = record { 0 = n } in who) (numbers low count) in
      let g = given_by f all x m in
      let range = numbers_range (λ n. let who : Pid = record { 0 = n } in who) (λ (k : Pid). k.0) (λ n. refl) low count g.source g.stands in
      let same : key x ≡ g.source.0 = own g.source x g.is in
      (omega arith, omega arith)

  -- and each of them gives one thing
  given_once : (low count : ℕ) → HasNoRepeats (map key (filter_map f (map (λ n. let who : Pid = record { 0 = n } in who) (numbers low count))))
  given_once low zero = tt
  given_once low (suc count) = by (f (record { 0 = low })) (λ x is. own (record { 0 = low }) x is) (given_once (low + 1) count)
    where
      rest : List A
      rest = filter_map f (map (λ n. let who : Pid = record { 0 = n } in who) (numbers (low + 1) count))

      apart : (x : A) → key x ≡ low → Member (key x) (map key rest) → ⊥
      apart x at m =
          let image = map-Member key rest (key x) m in
          let same : key x ≡ key image.of = image.is in
          let range = given_range (low + 1) count image.of image.stands in
          absurd (omega arith)

      by : (o : Option A) → ((x : A) → o ≡ Some x → key x ≡ low) → HasNoRepeats (map key rest) → HasNoRepeats (map key (cons_option o rest))
      by None at later = later
      by (Some x) at later = (apart x (at x refl), later)

-- a candidate is of the participant that it was asked of
candidate_from : (r : Routing) (to : Pid) (p : Prefix) (k : Pid) (c : Candidate) → given r to p k ≡ Some c → c.from.0 ≡ k.0
candidate_from r to p k c is =
    option_and_then_some (λ (attrs : Attrs). cond (is_given r k to p attrs) (Some (candidate r k attrs)) None) (route r k p) c is (λ attrs there is.
    ap (λ (x : Candidate). x.from.0) (sym (cond_some (is_given r k to p attrs) (candidate r k attrs) c is).1))

part_case : (r : Routing) (p : Prefix) (to : Pid) (x : Part) (o : Option Candidate) → best r to p ≡ o → option_map (λ (c : Candidate). part_with r to p c) o ≡ Some x → (c : Candidate) × (best r to p ≡ Some c) × (part_with r to p c ≡ x)
part_case r p to x None chosen e = absurd (cc)
part_case r p to x (Some c) chosen e = (c, chosen, cc)

-- the part of a participant with a best route is whole
pub part_whole : (r : Routing) (p : Prefix) (to : Pid) (c : Candidate) → to.0 < length r.participants → best r to p ≡ Some c → IsWhole (length r.participants) (part_with r to p c)
part_whole r p to c declared chosen = record {
  sender = declared;
  exporters = λ o m.
      let image = map-Member (offer r) those o m in
      let all = filter-Member test (candidates r to p) image.of image.stands in
      let range = given_range (given r to p) from (candidate_from r to p) 0 (length r.participants) image.of all.stands in
      let same : o.exporter.0 ≡ from image.of = ap (λ (x : Offer). x.exporter.0) image.is in
      omega arith;
  once = subst HasNoRepeats (sym (map-map (λ (o : Offer). o.exporter.0) (offer r) from (λ d. refl) those)) (filter_once from test (candidates r to p) (given_once (given r to p) from (candidate_from r to p) 0 (length r.participants)));
  best =
      let offered : IsOfferedBy r p c.from (offers r p to c.from) = best_offered r to p c chosen in
      sym (is_some-any (λ (o : Offer). nat_eq o.exporter.0 c.from.0) (offers r p to c.from)) ∙ ap is_some offered.found;
}
  where
    from : Candidate → ℕ
    from d = d.from.0

    test : Candidate → Bool
    test d = counts (named_by r to) c.from d.from

    those : List Candidate
    those = filter test (candidates r to p)

-- each part of a signature is whole
pub signature_whole : (r : Routing) (p : Prefix) (x : Part) → Member x (signature r p) → IsWhole (length r.participants) x
signature_whole r p x m =
    let g = given_by (part r p) (pids r) x m in
    let range = numbers_range (λ n. let who : Pid = record { 0 = n } in who) (λ (k : Pid). k.0) (λ n. refl) 0 (length r.participants) g.source g.stands in
    let made = part_case r p g.source x (best r g.source p) refl g.is in
    subst (IsWhole (length r.participants)) made.2 (part_whole r p g.source made.0 (omega arith) made.1)

-- a whole part stays whole where it is trimmed
pub trimmed_whole : (count : ℕ) (who : Pid) (named : List Pid) (part : Part) → IsWhole count part → IsWhole count (trimmed_part who named part)
trimmed_whole count who named part whole = by (nat_eq part.sender.0 who.0)
  where
    test : Offer → Bool
    test o = counts named part.best o.exporter

    by : (b : Bool) → IsWhole count (cond b (record part { offers = filter test part.offers }) part)
    by false = whole
    by true = record {
      sender = whole.sender;
      exporters = λ o m. whole.exporters o (filter-Member test part.offers o m).stands;
      once = filter_once (λ (o : Offer). o.exporter.0) test part.offers whole.once;
      best =
          let mine : Offer → Bool = λ o. nat_eq o.exporter.0 part.best.0 in
          let there = any_found mine part.offers whole.best in
          any_at mine (filter test part.offers) there.0
          (Member-filter test part.offers there.0 there.1.stands (or_left (mine there.0) (list_any (λ (other : Pid). nat_eq other.0 there.0.exporter.0) named) there.1.passes)) there.1.passes;
    }
