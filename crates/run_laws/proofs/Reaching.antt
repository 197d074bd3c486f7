-- By a tag that was told, stale or not, a frame leaves by ports of participants that exported the prefix when the tag was given.
use Rattle.std.proofs.Common.{◌≡◌, ℕ, ◌^◌, ◌<◌, ◌≤◌, Bool, true, false, nat_eq, List, [], map, sym, ap, subst, ◌∙◌, refl, inr, arith}
use Rattle.std.specs.Prelude.{Option, Some, None, MatchOption, Result, Ok, Err, find, slice_index, unwrap_or}
use Rattle.std.specs.FinMap.{get}
use Rattle.std.specs.Option.{option_and_then, option_map_or}
use Rattle.std.proofs.lemmas.Bool.{eq-eqb, eqb-true, or_left}
use Rattle.grammar.specs.TextReading.{Fault as Misread}
use Rattle.events.proofs.Reached.{runs_sound}
use Rattle.events.proofs.Routed.{valid_headers}
use Rattle.events.specs.Forms.{IsWellFormed}
use Rattle.events.specs.Legal.{Legal, state_after}
use Rattle.events.specs.Sound.{IsSound, owners_part, part_of}
use Rattle.events.specs.State.{State, ArePolicies, owner_of, port_of, present, told_to}
use Rattle.events.specs.Table.{actions_on, done_by, first_match, tag_at}
use Rattle.events.specs.Tags.{is_live_for, is_live_pair, same_tag, tells}
use Rattle.events.specs.declared.Entry.{Entry}
use Rattle.events.specs.declared.Event.{Event}
use Rattle.events.specs.declared.Reply.{Reply}
use Rattle.exchange_laws.proofs.Answering.{inport_of, owned}
use Rattle.exchange_laws.proofs.ReadPolicies.{one_reading}
use Rattle.net_types.proofs.FindLemmas.{find-IsFound}
use Rattle.net_types.proofs.OrderLemmas.{prefixes_total}
use Rattle.net_types.proofs.PassLemmas.{is_some-any, some_there}
use Rattle.net_types.proofs.ValueLemmas.{any_value}
use Rattle.net_types.specs.Answers.{Leaving, Policies, is_offered, offered_hole, offered_port, part_answer, policy_of}
use Rattle.net_types.specs.Exports.{exports}
use Rattle.net_types.specs.Frames.{headers_of}
use Rattle.net_types.specs.Headers.{IsValid}
use Rattle.net_types.specs.Isolation.{in_faults}
use Rattle.net_types.specs.Keys.{prefix_cmp}
use Rattle.net_types.specs.Policies.{Policy, Drop}
use Rattle.net_types.specs.Sets.{Member}
use Rattle.net_types.specs.declared.address.Pid.{Pid}
use Rattle.net_types.specs.declared.address.Tag.{Tag}
use Rattle.net_types.specs.declared.headers.Headers.{Headers}
use Rattle.net_types.specs.declared.prefix.Prefix.{Prefix}
use Rattle.net_types.specs.declared.route.Offer.{Offer}
use Rattle.net_types.specs.declared.route.Part.{Part}
use Rattle.net_types.specs.declared.route.PortInfo.{PortInfo}
use Rattle.net_types.specs.declared.rule.Pair.{Pair}
use Rattle.net_types.specs.declared.rule.Rule.{Rule}
use Rattle.run_laws.proofs.Giving.{kept_offers_were_exported}
use Rattle.run_laws.proofs.OwnHops.{offers_own, small_number}
use Rattle.run_laws.proofs.OwnPorts.{IsExportersPort, answer_own}
use Rattle.run_laws.proofs.Passing.{policies_have_passed}
use Rattle.run_laws.specs.Given.{IsGivenIn, OffersExporters, StaleTagsReachExporters, given_at}

-- ---- texts are read as one policy each

abbrev policy_or_drop : Result Policy Misread → Policy
policy_or_drop (Ok p) = p
policy_or_drop (Err fault) = Drop

-- ---- what is kept of the sender

-- the part of a sender in a signature that is kept
record IsKeptPart (s : State) (t : Tag) (who : Pid) (part : Part) : Type 0 where
  signature : List Part
  kept : get s.kept t ≡ Some signature
  is : part_of signature who ≡ Some part

kept_part : (s : State) (q : PortInfo) (t : Tag) (part : Part) → port_of s q.number ≡ Some q → owners_part s (record { port = q.number; tag = t }) ≡ Some part → IsKeptPart s t q.owner part
kept_part s q t part at e =
    by (get s.kept t) refl (sym (ap (option_and_then (λ (x : PortInfo). option_and_then (λ sig. part_of sig x.owner) (get s.kept t))) at) ∙ e)
  where
    by : (o : Option (List Part)) → get s.kept t ≡ o → option_and_then (λ sig. part_of sig q.owner) o ≡ Some part → IsKeptPart s t q.owner part
    by None kept e = absurd (cc)
    by (Some sig) kept e = record { signature = sig; kept = kept; is = e }

-- a participant that stands among the offers, with its offer
record IsOffer (offers : List Offer) (who : Pid) : Type 0 where
  offer : Offer
  stands : Member offer offers
  exporter : offer.exporter ≡ who
  port : offered_port offers who ≡ offer.port

offer_of : (offers : List Offer) (who : Pid) → is_offered offers who ≡ true → IsOffer offers who
offer_of offers who is =
    let test : Offer → Bool = λ o. nat_eq o.exporter.0 who.0 in
    let there = some_there (find test offers) (is_some-any test offers ∙ is) in
    let at = find-IsFound test offers there.0 there.1 in
    let same : there.0.exporter.0 ≡ who.0 = eqb-true there.0.exporter.0 who.0 at.passes in record {
      offer = there.0;
      stands = at.stands;
      exporter = λ i. record { 0 = same i };
      port = ap (λ o. option_map_or (λ (x : Offer). x.port) o (record { 0 = 0 })) there.1;
    }

-- ---- the frame

module _ (es : List Event) (rs : List Reply) (formed : (e : Event) → Member e es → IsWellFormed e) (legal : Legal es rs)
    (q : PortInfo) (p : Prefix) (told : Entry) (at : port_of (state_after es rs) q.number ≡ Some q) (has : get (told_to (state_after es rs) q.owner) p ≡ Some told)
    (frame : List ℕ) (octets : (k : ℕ) → slice_index frame k < 256) (sent_to : tag_at frame ≡ Some told.tag) where
  abbrev s : State
  s = state_after es rs

  abbrev pair : Pair
  pair = record { port = q.number; tag = told.tag }

  sound : IsSound s
  sound = runs_sound es rs legal

  live : is_live_pair s pair ≡ true
  live =
      ap (λ o. option_map_or (is_live_for s told.tag) o false) at
      ∙ or_left (tells (told_to s q.owner) told.tag) (tells (present s q.owner) told.tag)
      (any_value prefix_cmp prefixes_total (λ (e : Entry). same_tag e.tag told.tag) (told_to s q.owner) p told has (eq-eqb told.tag.0 told.tag.0 refl))

  given : IsGivenIn (given_at es rs p told.tag) s q.owner p told.tag
  given = kept_offers_were_exported es rs legal q.owner p told.tag (inr (told, has, refl))

  abbrev Reaches : Leaving → Type 0
  Reaches l = MatchOption (port_of s l.port) ⊥ (λ x. exports given.state.routing x.owner q.owner p ≡ true)

  passed : (ps : Policies) → ArePolicies s ps → (who : Pid) → in_faults (owner_of s) who (policy_of ps.inbound who) ≡ []
  passed ps are who =
      let all = policies_have_passed es rs legal in
      let same : all.0.inbound ≡ ps.inbound = one_reading s.inbound all.0.inbound ps.inbound all.1.inbound are.inbound in
      ap (λ policies. in_faults (owner_of s) who (policy_of policies who)) (sym same) ∙ all.2.inbound who

  by_part : (ps : Policies) → ArePolicies s ps → (part : Part) → IsKeptPart s told.tag q.owner part → (h : Headers) (l : Leaving) → Member l (part_answer ps part h) → Reaches l
  by_part ps are part kept h l m =
      let offers : OffersExporters given.state q.owner p part = given.parts kept.signature part kept.kept kept.is in
      let stands : Member part kept.signature = (find-IsFound (λ (x : Part). nat_eq x.sender.0 q.owner.0) kept.signature part kept.is).stands in
      let own : (who : Pid) → is_offered part.offers who ≡ true → owner_of s (offered_port part.offers who) ≡ Some who = λ who ok.
      let one = offer_of part.offers who ok in
      ap (owner_of s) one.port ∙ offers_own es rs formed legal told.tag kept.signature kept.kept part stands one.offer one.stands ∙ ap Some one.exporter in
      let leaves : IsExportersPort (owner_of s) (is_offered part.offers) l.port = answer_own ps (owner_of s) part.sender (is_offered part.offers) (offered_hole part.offers) part.best (offered_port part.offers) h offers.offered (passed ps are) own l m in
      let by = offer_of part.offers leaves.who leaves.exports in
      owned (port_of s l.port) leaves.who (λ who. exports given.state.routing who q.owner p) leaves.owns
      (ap (λ who. exports given.state.routing who q.owner p) (sym by.exporter) ∙ offers.exporters by.offer by.stands)

  by_headers : (o : Option Headers) → headers_of q.number frame ≡ o → (l : Leaving) → Member l (first_match s.table q.number frame) → Reaches l
  by_headers None read l m =
      let none : Member l [] = subst (Member l) (ap (λ o. option_map_or (λ (k : Headers). option_map_or (λ (t : Tag). actions_on (unwrap_or (get s.table (record { port = q.number; tag = t })) []) k) (tag_at frame) []) o []) read) m in
      absurd none
  by_headers (Some h) read l m =
      let there = some_there (get s.table pair) (sound.pairs pair ∙ live) in
      let right = sound.right.2 pair there.0 there.1 in
      let few : q.number.0 ≤ 65279 = small_number es rs formed legal q.number q at in
      let small : q.number.0 < 2 ^ 16 = omega arith in
      let valid : IsValid h = valid_headers q.number frame h small octets read in
      let gives = right.2.gives h valid (inport_of q.number frame h read) in
      let act : Headers → Tag → List Leaving = λ k t. actions_on (unwrap_or (get s.table (record { port = q.number; tag = t })) []) k in
      let match : first_match s.table q.number frame ≡ map (done_by h) gives.0.actions =
      ap (λ o. option_map_or (λ (k : Headers). option_map_or (act k) (tag_at frame) []) o []) read
      ∙ ap (λ o. option_map_or (act h) o []) sent_to
      ∙ ap (λ o. actions_on (unwrap_or o []) h) there.1
      ∙ ap (λ o. option_map_or (λ (x : Rule). map (done_by h) x.actions) o []) gives.1 in
      by_part sound.right.0 sound.right.1 right.0 (kept_part s q told.tag right.0 at right.1) h l (gives.2.onto l (subst (Member l) match m))

pub stale_tags_reach_exporters : StaleTagsReachExporters
stale_tags_reach_exporters es rs formed legal q p told at has frame octets sent_to =
    let from = given es rs formed legal q p told at has frame octets sent_to in
    record { state = from.state; is = from.is; exporters = by_headers es rs formed legal q p told at has frame octets sent_to (headers_of q.number frame) refl }
