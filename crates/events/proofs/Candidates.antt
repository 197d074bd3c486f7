-- The candidates of a participant for a prefix, and their offers.
use Rattle.std.proofs.Common.{◌≡◌, Bool, true, false, cond, nat_eq, List, [], ◌∷◌, map, filter, sym, ap, subst, ◌∙◌, refl, inl}
use Rattle.std.specs.Prelude.{Some, None, find}
use Rattle.std.specs.Option.{option_map_or}
use Rattle.std.proofs.lemmas.Bool.{eq-eqb, eqb-true}
use Rattle.std.proofs.lemmas.Option.{option_and_then_some, cond_some}
use Rattle.net_types.specs.Answers.{has_hole, next_port, offered_hole, offered_port}
use Rattle.net_types.specs.Exports.{Routing, exports, is_given, route}
use Rattle.net_types.specs.Routes.{Candidate, best, candidate, candidates, given, first_of_list, pids}
use Rattle.net_types.specs.Sets.{Member}
use Rattle.net_types.specs.Signatures.{is_hole, offer, port_with}
use Rattle.net_types.specs.declared.address.Pid.{Pid}
use Rattle.net_types.specs.declared.prefix.Prefix.{Prefix}
use Rattle.net_types.specs.declared.route.Attrs.{Attrs}
use Rattle.net_types.specs.declared.route.Offer.{Offer}
use Rattle.net_types.proofs.FindLemmas.{find-IsFound, any_at}
use Rattle.net_types.proofs.PassLemmas.{is_some-any, some_there}
use Rattle.net_types.proofs.RisingLemmas.{filter-Member}
use Rattle.net_types.proofs.SetLemmas.{Member-map, map-Member, given_by}

-- a candidate is a route that is exported
pub record IsExported (r : Routing) (to : Pid) (p : Prefix) (c : Candidate) : Type 0 where
  pub routed : route r c.from p ≡ Some c.attrs
  pub exported : exports r c.from to p ≡ true

pub candidate_exported : (r : Routing) (to : Pid) (p : Prefix) (c : Candidate) → Member c (candidates r to p) → IsExported r to p c
candidate_exported r to p c m =
    let g = given_by (given r to p) (pids r) c m in
    let from : Pid = g.source in
    option_and_then_some (λ (attrs : Attrs). cond (is_given r from to p attrs) (Some (candidate r from attrs)) None) (route r from p) c g.is (λ attrs there is.
    let parts = cond_some (is_given r from to p attrs) (candidate r from attrs) c is in
    subst (IsExported r to p) parts.1 (record { routed = there; exported = ap (λ o. option_map_or (is_given r from to p) o false) there ∙ parts.0 }))

pub first_Member : {A : Type 0} (xs : List A) (x : A) → first_of_list xs ≡ Some x → Member x xs
first_Member [] x e = absurd (cc)
first_Member (y ∷ xs) x e = inl (let same : y ≡ x = cc in sym same)

-- the best route is one of the candidates
pub best_Member : (r : Routing) (to : Pid) (p : Prefix) (c : Candidate) → best r to p ≡ Some c → Member c (candidates r to p)
best_Member r to p c e = back _ _ (back _ _ (back _ _ (back _ _ (back _ _ (first_Member _ c e)))))
  where
    back : (test : Candidate → Bool) (xs : List Candidate) → Member c (filter test xs) → Member c xs
    back test xs m = (filter-Member test xs c m).stands

-- an exporter's offer is of its route
pub record IsOfferedBy (r : Routing) (p : Prefix) (who : Pid) (offers : List Offer) : Type 0 where
  pub of : Candidate
  pub found : find (λ (o : Offer). nat_eq o.exporter.0 who.0) offers ≡ Some (offer r of)
  pub routed : route r who p ≡ Some of.attrs

-- the first offer of a candidate among some is of its route
pub offered_by : (r : Routing) (to : Pid) (p : Prefix) (cs : List Candidate) (c : Candidate) → ((d : Candidate) → Member d cs → Member d (candidates r to p)) → Member c cs → IsOfferedBy r p c.from (map (offer r) cs)
offered_by r to p cs c all m =
    let offers : List Offer = map (offer r) cs in
    let test : Offer → Bool = λ o. nat_eq o.exporter.0 c.from.0 in
    let o = some_there (find test offers) (is_some-any test offers ∙ any_at test offers (offer r c) (Member-map (offer r) cs c m) (eq-eqb c.from.0 c.from.0 refl)) in
    let found = find-IsFound test offers o.0 o.1 in
    let image = map-Member (offer r) cs o.0 found.stands in
    let d : Candidate = image.of in
    let same : d.from.0 ≡ c.from.0 = ap (λ (x : Offer). x.exporter.0) (sym image.is) ∙ eqb-true o.0.exporter.0 c.from.0 found.passes in
    record { of = d; found = o.1 ∙ ap Some image.is; routed = ap (λ n. route r (record { 0 = n }) p) (sym same) ∙ (candidate_exported r to p d (all d image.stands)).routed }

-- its port is that of the route's NEXT_HOP
pub offered_port_is : (r : Routing) (p : Prefix) (who : Pid) (offers : List Offer) → IsOfferedBy r p who offers → offered_port offers who ≡ next_port r p who
offered_port_is r p who offers is =
    ap (λ o. option_map_or (λ (x : Offer). x.port) o (record { 0 = 0 })) is.found
    ∙ sym (ap (λ o. option_map_or (λ (attrs : Attrs). port_with r.ports attrs.next_hop) o (record { 0 = 0 })) is.routed)

-- and it is a hole where the route is one
pub offered_hole_is : (r : Routing) (p : Prefix) (who : Pid) (offers : List Offer) → IsOfferedBy r p who offers → offered_hole offers who ≡ has_hole r p who
offered_hole_is r p who offers is = ap (λ o. option_map_or (λ (x : Offer). x.hole) o false) is.found ∙ sym (ap (λ o. option_map_or is_hole o false) is.routed)
