-- What the table of a sound state makes of a frame for a tag that a participant was told, where that tag is still the
-- prefix's, is what the policies and the present routes give.
use Rattle.std.proofs.Common.{◌≡◌, ℕ, ◌<◌, Bool, true, false, cond, nat_eq, List, [], ◌∷◌, length, filter, map, sym, ap, subst, ◌∙◌, refl, arith, inl, inr}
use Rattle.std.specs.Prelude.{Option, Some, None, is_some, unwrap_or, MatchOption}
use Rattle.std.specs.Cmp.{IsTotalOrder, nat_cmp_total}
use Rattle.std.specs.FinMap.{get, nat_cmp-IsAntisymmetric}
use Rattle.std.specs.List.{list_any}
use Rattle.std.specs.Option.{option_map, option_map_or, option_and_then}
use Rattle.std.specs.Ordering.{eq_by_cmp, nat_cmp}
use Rattle.std.proofs.lemmas.Bool.{eq-eqb, eqb-true, or_left, or_right}
use Rattle.std.proofs.lemmas.Cmp.{on_total}
use Rattle.std.proofs.lemmas.Map.Views.{any-filter_same}
use Rattle.std.proofs.lemmas.Option.{cond_some}
use Rattle.net_types.specs.Answers.{Policies, Leaving, answer, answer_for, answer_by, has_hole, is_offered, next_port, offered_hole, offered_port, or_default, part_answer, policy_of, received, received_at, sent, sent_to, towards}
use Rattle.net_types.specs.Exports.{Routing, exports, is_given, named_by, pid_of, route}
use Rattle.net_types.specs.Frames.{has_headers, headers_of}
use Rattle.net_types.specs.Headers.{IsValid}
use Rattle.net_types.specs.Keys.{prefix_cmp}
use Rattle.net_types.specs.Policies.{Packet, Policy, den}
use Rattle.net_types.specs.Routes.{Candidate, best, candidate, candidates, given, pids}
use Rattle.net_types.specs.Sets.{Member, SameMembers, union_over}
use Rattle.net_types.specs.Signatures.{counts, offer, offers, port_with}
use Rattle.net_types.specs.declared.address.Pid.{Pid}
use Rattle.net_types.specs.declared.address.PortNo.{PortNo}
use Rattle.net_types.specs.declared.address.Tag.{Tag}
use Rattle.net_types.specs.declared.headers.Headers.{Headers}
use Rattle.net_types.specs.declared.headers.Loc.TheVariants.{Stay, To, Out, Nowhere}
use Rattle.net_types.specs.declared.prefix.Prefix.{Prefix}
use Rattle.net_types.specs.declared.route.Attrs.{Attrs}
use Rattle.net_types.specs.declared.route.PortInfo.{PortInfo}
use Rattle.net_types.specs.declared.rule.Pair.{Pair}
use Rattle.net_types.specs.declared.rule.Rule.{Rule}
use Rattle.net_types.proofs.OrderLemmas.{prefixes_total}
use Rattle.net_types.proofs.RisingLemmas.{filter-Member}
use Rattle.net_types.proofs.SetLemmas.{same_eq, same_trans}
use Rattle.net_types.proofs.PassLemmas.{some_there}
use Rattle.net_types.proofs.TieLemmas.{tie_Equal}
use Rattle.net_types.proofs.ValueLemmas.{any_value}
use Rattle.events.specs.Fits.{ReachesExporters}
use Rattle.events.specs.Sound.{IsRight, IsSound, part_of, owners_part, HopsAreOwn}
use Rattle.events.specs.State.{State, ArePassed, ArePolicies, told_to, present, owner_of, port_of}
use Rattle.events.specs.Table.{actions_on, done_by, first_match, out, tag_at}
use Rattle.events.specs.Tags.{is_live_for, is_live_pair, same_tag, tells}
use Rattle.events.specs.declared.Entry.{Entry}
use Rattle.events.proofs.Candidates.{IsOfferedBy, best_Member, candidate_exported, offered_by, offered_hole_is, offered_port_is}
use Rattle.net_types.specs.Isolation.{in_faults}
use Rattle.net_types.specs.Keys.{pid_cmp}
use Rattle.net_types.specs.Naming.{forwards, named_in}
use Rattle.net_types.specs.declared.headers.Loc.{Loc}
use Rattle.net_types.specs.declared.route.Offer.{Offer}
use Rattle.net_types.proofs.FindLemmas.{any_at, some_same}
use Rattle.net_types.proofs.MemberLemmas.{Member-filter_map}
use Rattle.net_types.proofs.OrderedLemmas.{ordered_same}
use Rattle.net_types.proofs.PassLemmas.{any_map, is_some-any, place_member}
use Rattle.net_types.proofs.SetLemmas.{map-Member, union-Member}
use Rattle.events.proofs.Reached.{declared_pid}
use Rattle.exchange_laws.proofs.OwnPorts.{leaves_by_own}
use Rattle.exchange_laws.proofs.Parts.{sent_to_exporters, union_on}
use Rattle.exchange_laws.proofs.ReadPolicies.{policies_are_one}
use Rattle.exchange_laws.proofs.Sending.{IsNamed, forwards_name, goes_to_named}
use Rattle.events.proofs.Routed.{best_offered, out_alike, part_with, signature_part}
use Rattle.net_types.proofs.WidthTests.{any_found}

-- ---- by the offers and by the routes

pub same_tests : (a b : Bool) → (a ≡ true → b ≡ true) → (b ≡ true → a ≡ true) → a ≡ b
same_tests true b onto back = sym (onto refl)
same_tests false true onto back = back refl
same_tests false false onto back = refl

-- What is sent and received is the same by tests that agree on the participants that the sender's policy names, and by holes
-- and ports that agree on the exporters.
answer_by_alike : (ps : Policies) (sender chosen : Pid) (exporter exporter' hole hole' : Pid → Bool) (port port' : Pid → PortNo) (h : Headers) → exporter chosen ≡ true
    → ((who : Pid) → Member who (forwards ps.named (policy_of ps.outbound sender)) → exporter who ≡ exporter' who) → ((who : Pid) → exporter who ≡ true → hole who ≡ hole' who) → ((who : Pid) → exporter who ≡ true → port who ≡ port' who)
    → answer_by ps sender exporter hole chosen port h ≡ answer_by ps sender exporter' hole' chosen port' h
answer_by_alike ps sender chosen exporter exporter' hole hole' port port' h exports tests holes ports =
    union_on (received_at ps port h) (received_at ps port' h) (sent ps.named outbound exporter hole chosen h) received_alike
    ∙ ap (union_over (received_at ps port' h)) (ap (or_default hole chosen) (union_on by by' packets (λ packet m. sent_alike packet.1 (goes_to_named ps.named outbound h packet m))) ∙ default_alike (union_over by' packets))
  where
    outbound : Policy
    outbound = policy_of ps.outbound sender

    packets : List Packet
    packets = den ps.named outbound h Stay

    by : Packet → List Loc
    by packet = sent_to exporter hole chosen packet.1

    by' : Packet → List Loc
    by' packet = sent_to exporter' hole' chosen packet.1

    received_alike : (l : Loc) → Member l (sent ps.named outbound exporter hole chosen h) → received_at ps port h l ≡ received_at ps port' h l
    received_alike Stay m = refl
    received_alike Nowhere m = refl
    received_alike (Out n) m = refl
    received_alike (To who) m = ap (λ n. received ps.named (policy_of ps.inbound who) n h) (ports who (sent_to_exporters exporter hole chosen who ps.named outbound h exports m))

    default_alike : (ls : List Loc) → or_default hole chosen ls ≡ or_default hole' chosen ls
    default_alike [] = ap (λ b. cond b Nowhere (To chosen) ∷ []) (holes chosen exports)
    default_alike (l ∷ ls) = refl

    sent_alike : (l : Loc) → IsNamed (forwards ps.named outbound) l → sent_to exporter hole chosen l ≡ sent_to exporter' hole' chosen l
    sent_alike Stay named = ap (λ b. cond b Nowhere (To chosen) ∷ []) (holes chosen exports)
    sent_alike Nowhere named = refl
    sent_alike (Out n) named = refl
    sent_alike (To who) named = to (exporter who) refl (tests who named)
      where
        to : (b : Bool) → exporter who ≡ b → b ≡ exporter' who → cond b (towards hole who ∷ []) [] ≡ cond (exporter' who) (towards hole' who ∷ []) []
        to true is same = ap (λ b. cond b Nowhere (To who) ∷ []) (holes who is) ∙ ap (λ b. cond b (towards hole' who ∷ []) []) same
        to false is same = ap (λ b. cond b (towards hole' who ∷ []) []) same

-- a route that is exported
exported_route : (r : Routing) (from to : Pid) (p : Prefix) → exports r from to p ≡ true → (attrs : Attrs) × (route r from p ≡ Some attrs) × (is_given r from to p attrs ≡ true)
exported_route r from to p is = by (route r from p) refl is
  where
    by : (o : Option Attrs) → route r from p ≡ o → option_map_or (is_given r from to p) o false ≡ true → (attrs : Attrs) × (route r from p ≡ Some attrs) × (is_given r from to p attrs ≡ true)
    by None there given_to = absurd (cc)
    by (Some attrs) there given_to = (attrs, there, given_to)

-- a declared participant is among the candidates where it exports
candidate_exports : (r : Routing) (to : Pid) (p : Prefix) (who : Pid) → who.0 < length r.participants → list_any (λ (c : Candidate). nat_eq c.from.0 who.0) (candidates r to p) ≡ exports r who to p
candidate_exports r to p who declared = same_tests (list_any mine (candidates r to p)) (exports r who to p) onto back
  where
    mine : Candidate → Bool
    mine c = nat_eq c.from.0 who.0

    onto : list_any mine (candidates r to p) ≡ true → exports r who to p ≡ true
    onto any =
        let there = any_found mine (candidates r to p) any in
        ap (λ n. exports r (record { 0 = n }) to p) (sym (eqb-true there.0.from.0 who.0 there.1.passes)) ∙ (candidate_exported r to p there.0 there.1.stands).exported

    back : exports r who to p ≡ true → list_any mine (candidates r to p) ≡ true
    back is =
        let from = exported_route r who to p is in
        let one : given r to p who ≡ Some (candidate r who from.0) =
        ap (option_and_then (λ (attrs : Attrs). cond (is_given r who to p attrs) (Some (candidate r who attrs)) None)) from.1 ∙ ap (λ b. cond b (Some (candidate r who from.0)) None) from.2 in
        any_at mine (candidates r to p) (candidate r who from.0)
        (Member-filter_map (given r to p) (pids r) who (candidate r who from.0) (place_member (λ n. let w : Pid = record { 0 = n } in w) 0 (length r.participants) who.0 (omega arith) (omega arith)) one)
        (eq-eqb who.0 who.0 refl)

-- and of those that the sender names, among the offers
offered_exports : (r : Routing) (to : Pid) (p : Prefix) (chosen who : Pid) → who.0 < length r.participants → Member who (named_by r to) → is_offered (offers r p to chosen) who ≡ exports r who to p
offered_exports r to p chosen who declared named =
    any_map (λ (o : Offer). nat_eq o.exporter.0 who.0) (offer r) (filter test (candidates r to p))
    ∙ any-filter_same (λ (c : Candidate). nat_eq c.from.0 who.0) test true counted (candidates r to p)
    ∙ candidate_exports r to p who declared
  where
    test : Candidate → Bool
    test c = counts (named_by r to) chosen c.from

    counted : (c : Candidate) → nat_eq c.from.0 who.0 ≡ true → test c ≡ true
    counted c is =
        or_right (nat_eq c.from.0 chosen.0) (list_any (λ (other : Pid). nat_eq other.0 c.from.0) (named_by r to))
        (any_at (λ (other : Pid). nat_eq other.0 c.from.0) (named_by r to) who named (eq-eqb who.0 c.from.0 (sym (eqb-true c.from.0 who.0 is))))

-- each offer is of its exporter's route
all_offered : (r : Routing) (to : Pid) (p : Prefix) (chosen who : Pid) → is_offered (offers r p to chosen) who ≡ true → IsOfferedBy r p who (offers r p to chosen)
all_offered r to p chosen who is =
    let test : Candidate → Bool = λ c. counts (named_by r to) chosen c.from in
    let there = any_found (λ (o : Offer). nat_eq o.exporter.0 who.0) (offers r p to chosen) is in
    let image = map-Member (offer r) (filter test (candidates r to p)) there.0 there.1.stands in
    let c : Candidate = image.of in
    let same : c.from.0 ≡ who.0 = ap (λ (o : Offer). o.exporter.0) (sym image.is) ∙ eqb-true there.0.exporter.0 who.0 there.1.passes in
    subst (λ n. IsOfferedBy r p (record { 0 = n }) (offers r p to chosen)) same
    (offered_by r to p (filter test (candidates r to p)) c (λ d m. (filter-Member test (candidates r to p) d m).stands) image.stands)

pids_total : IsTotalOrder pid_cmp
pids_total = on_total (λ (who : Pid). who.0) nat_cmp_total

pids_tie : (a b : Pid) → eq_by_cmp pid_cmp a b ≡ true → a ≡ b
pids_tie a b e = λ i. record { 0 = nat_cmp-IsAntisymmetric a.0 b.0 (tie_Equal (nat_cmp a.0 b.0) e) i }

-- the part of a sender gives what the routes give
pub part_answers : (r : Routing) (ps : Policies) (who : Pid) (p : Prefix) (c : Candidate) → ps.named ≡ pid_of r → named_by r who ≡ named_in ps.named (policy_of ps.outbound who) → best r who p ≡ Some c
    → (h : Headers) → part_answer ps (part_with r who p c) h ≡ answer ps r who p h
part_answers r ps who p c names named chosen h =
    answer_by_alike ps who c.from (is_offered own) (λ k. exports r k who p) (offered_hole own) (has_hole r p) (offered_port own) (next_port r p) h
    (sym (is_some-any (λ (o : Offer). nat_eq o.exporter.0 c.from.0) own) ∙ ap is_some (best_offered r who p c chosen).found)
    (λ k m. offered_exports r who p c.from k (declared k m) (counted k m))
    (λ k is. offered_hole_is r p k own (all_offered r who p c.from k is))
    (λ k is. offered_port_is r p k own (all_offered r who p c.from k is))
    ∙ sym (ap (answer_for ps r who p h) chosen)
  where
    own : List Offer
    own = offers r p who c.from

    outbound : Policy
    outbound = policy_of ps.outbound who

    declared : (k : Pid) → Member k (forwards ps.named outbound) → k.0 < length r.participants
    declared k m =
        let has = forwards_name ps.named outbound k m in
        declared_pid r has.0 k (ap (λ (of : List ℕ → Option Pid). of has.0) (sym names) ∙ has.1)

    counted : (k : Pid) → Member k (forwards ps.named outbound) → Member k (named_by r who)
    counted k m = subst (Member k) (sym named) ((ordered_same pid_cmp pids_total pids_tie (forwards ps.named outbound)).back k m)

-- ---- by the table and by the routes

pub owned : (o : Option PortInfo) (who : Pid) (test : Pid → Bool) → option_map (λ (x : PortInfo). x.owner) o ≡ Some who → test who ≡ true → MatchOption o ⊥ (λ x. test x.owner ≡ true)
owned None who test e t = absurd (cc)
owned (Some x) who test e t = let same : x.owner ≡ who = cc in ap test same ∙ t

pub inport_of : (port : PortNo) (frame : List ℕ) (h : Headers) → headers_of port frame ≡ Some h → h.inport ≡ port
inport_of port frame h e = let parts = cond_some (has_headers frame) _ h e in ap (λ (x : Headers). x.inport) (sym parts.1)

-- what policies that passed isolation give of a prefix reaches exporters alone
pub reaches_exporters : (s : State) (ps : Policies) → HopsAreOwn s → ((who : Pid) → in_faults (owner_of s) who (policy_of ps.inbound who) ≡ []) → (sender : Pid) (p : Prefix) (c : Candidate) → best s.routing sender p ≡ Some c
    → (h : Headers) → ReachesExporters s sender p (answer ps s.routing sender p h)
reaches_exporters s ps hops passed sender p c chosen h l m =
    let from = union-Member (received_at ps port h) those l (subst (Member l) (ap (answer_for ps r sender p h) chosen) m) in
    by from.of from.stands from.gives
  where
    r : Routing
    r = s.routing

    exporter : Pid → Bool
    exporter who = exports r who sender p

    port : Pid → PortNo
    port = next_port r p

    those : List Loc
    those = sent ps.named (policy_of ps.outbound sender) exporter (has_hole r p) c.from h

    -- the port of an exporter's NEXT_HOP is its own
    hop_own : (who : Pid) → exporter who ≡ true → owner_of s (port who) ≡ Some who
    hop_own who is =
        let given_by = exported_route r who sender p is in
        ap (λ o. owner_of s (option_map_or (λ (attrs : Attrs). port_with r.ports attrs.next_hop) o (record { 0 = 0 }))) given_by.1 ∙ hops who p given_by.0 given_by.1

    by : (to : Loc) → Member to those → Member l (received_at ps port h to) → MatchOption (port_of s l.port) ⊥ (λ x. exporter x.owner ≡ true)
    by Stay there gives = absurd gives
    by Nowhere there gives = absurd gives
    by (Out n) there gives = absurd gives
    by (To who) there gives =
        let is : exporter who ≡ true = sent_to_exporters exporter (has_hole r p) c.from who ps.named (policy_of ps.outbound sender) h (candidate_exported r sender p c (best_Member r sender p c chosen)).exported there in
        let own : owner_of s l.port ≡ Some who = elim (leaves_by_own (owner_of s) who ps.named (policy_of ps.inbound who) (port who) h l (passed who) gives) [ inl same ↦ ap (owner_of s) same ∙ hop_own who is | inr mine ↦ mine ] in
        owned (port_of s l.port) who exporter own is

module _ (s : State) (sound : IsSound s) (hops : HopsAreOwn s) (ps : Policies) (are : ArePolicies s ps) (passed : ArePassed s ps) (q : PortInfo) (at : port_of s q.number ≡ Some q) (declared : q.owner.0 < length s.routing.participants)
    (p : Prefix) (told : Entry) (has : get (told_to s q.owner) p ≡ Some told) (tagged : get s.tag p ≡ Some told.tag) (c : Candidate) (chosen : best s.routing q.owner p ≡ Some c)
    (frame : List ℕ) (h : Headers) (read : headers_of q.number frame ≡ Some h) (valid : IsValid h) (sent_to : tag_at frame ≡ Some told.tag) where
  abbrev r : Routing
  r = s.routing

  abbrev pair : Pair
  pair = record { port = q.number; tag = told.tag }

  live : is_live_pair s pair ≡ true
  live =
      ap (λ o. option_map_or (is_live_for s told.tag) o false) at
      ∙ or_left (tells (told_to s q.owner) told.tag) (tells (present s q.owner) told.tag)
      (any_value prefix_cmp prefixes_total (λ (e : Entry). same_tag e.tag told.tag) (told_to s q.owner) p told has (eq-eqb told.tag.0 told.tag.0 refl))

  kept_part : owners_part s pair ≡ Some (part_with r q.owner p c)
  kept_part =
      ap (option_and_then (λ (x : PortInfo). option_and_then (λ sig. part_of sig x.owner) (get s.kept told.tag))) at
      ∙ ap (option_and_then (λ sig. part_of sig q.owner)) (sound.kept p told.tag tagged)
      ∙ signature_part r q.owner p c declared chosen

  -- the rules of the pair give what the routes give
  by_rules : (rules : List Rule) → get s.table pair ≡ Some rules → SameMembers (first_match s.table q.number frame) (answer ps r q.owner p h)
  by_rules rules there =
      let right = sound.right.2 pair rules there in
      let here : IsRight ps right.0 q.number rules = subst (λ x. IsRight x right.0 q.number rules) (policies_are_one sound.right.1 are) right.2 in
      let gives = here.gives h valid (inport_of q.number frame h read) in
      let same : right.0 ≡ part_with r q.owner p c = some_same (owners_part s pair) right.0 (part_with r q.owner p c) right.1 kept_part in
      let act : Headers → Tag → List Leaving = λ k u. actions_on (unwrap_or (get s.table (record { port = q.number; tag = u })) []) k in
      let match : first_match s.table q.number frame ≡ map (done_by h) gives.0.actions =
      ap (λ o. option_map_or (λ (k : Headers). option_map_or (act k) (tag_at frame) []) o []) read
      ∙ ap (λ o. option_map_or (act h) o []) sent_to
      ∙ ap (λ o. actions_on (unwrap_or o []) h) there
      ∙ ap (λ o. option_map_or (λ (x : Rule). map (done_by h) x.actions) o []) gives.1 in
      same_trans (same_eq match) (same_trans gives.2 (same_eq (ap (λ x. part_answer ps x h) same ∙ part_answers r ps q.owner p c are.names (passed.named q.owner) chosen h)))

  -- by the table the frame leaves as the policies and the present routes say, and reaches exporters alone
  pub routed : (ps : Policies) × ArePolicies s ps × MatchOption (headers_of q.number frame) ⊥ (λ k.
      (out r.ports frame (first_match s.table q.number frame) ≡ out r.ports frame (answer ps r q.owner p k)) × ReachesExporters s q.owner p (answer ps r q.owner p k))
  routed =
      let there = some_there (get s.table pair) (sound.pairs pair ∙ live) in (
        ps,
        are,
        subst (λ o. MatchOption o ⊥ (λ k. (out r.ports frame (first_match s.table q.number frame) ≡ out r.ports frame (answer ps r q.owner p k)) × ReachesExporters s q.owner p (answer ps r q.owner p k))) (sym read)
            (out_alike r.ports frame (first_match s.table q.number frame) (answer ps r q.owner p h) (by_rules there.0 there.1), reaches_exporters s ps hops passed.inbound q.owner p c chosen h),
      )
