-- What the receivers' rules give leaves as a part's answer says.
use Rattle.std.proofs.Common.{◌≡◌, Bool, true, false, cond, Option, Some, None, unwrap_or, List, [], ◌∷◌, ◌++◌, map, refl, sym, ap, ◌∙◌, subst}
use Rattle.std.proofs.lemmas.List.{append-nil, append_assoc}
use Rattle.classifier.proofs.DecideLemmas.{same_add_all}
use Rattle.classifier.specs.Items.{Item, add_all}
use Rattle.classifier.specs.Meaning.{given, carried, meaning, ends_with_everything}
use Rattle.classifier.specs.declared.line.Line.{Line}
use Rattle.events.specs.Table.{done_by}
use Rattle.net_types.proofs.CubeLemmas.{has-everything}
use Rattle.net_types.proofs.SetLemmas
use Rattle.net_types.specs.Answers.{Leaving, is_offered, leaves_by, offered_port, or_default, or_unchanged, sent_to}
use Rattle.net_types.specs.Headers.{apply, arrived}
use Rattle.net_types.specs.Policies.{Packet}
use Rattle.net_types.specs.Sets.{Member, SameMembers, union_over}
use Rattle.net_types.specs.declared.address.Pid.{Pid}
use Rattle.net_types.specs.declared.address.PortNo.{PortNo}
use Rattle.net_types.specs.declared.headers.Assign.{Assign}
use Rattle.net_types.specs.declared.headers.Headers.{Headers}
use Rattle.net_types.specs.declared.headers.Loc.{Loc}
use Rattle.net_types.specs.declared.headers.Loc.TheVariants.{Stay, To, Out, Nowhere}
use Rattle.net_types.specs.declared.route.Offer.{Offer}
use Rattle.net_types.specs.declared.route.Part.{Part}
use Rattle.net_types.proofs.ActionOrder.{ordered_actions}
use Rattle.block_build.proofs.DecideBlocks.{given-received}
use Rattle.block_build.proofs.OfferLemmas.{stands-offered, port-stands, hole-stands, offered-from}
use Rattle.block_build.proofs.SentLemmas.{answer-past, no_hole, received_past, sent_all, sent_plain, goes-sent, sent-goes, sent-offered}
use Rattle.block_build.specs.Gathered.{gathered, gathered_by}
use Rattle.block_build.specs.Offers.{each_once, goes_to, has_one_left}
use Rattle.block_build.specs.Outcomes.{answer_from, received_from}
use Rattle.block_build.specs.Receivers.{discarding, exit_of, add_exit, add_exits, received_items, received_lines, receiver, receivers}
use Rattle.block_build.specs.Rules.{action_at, actions_in, actions_of}
use Rattle.block_build.specs.declared.receive.Receiver.{Receiver}
use Rattle.classifier.proofs.SumLemmas.{union-append}

-- ---- what leaves by the actions of some items

abbrev pub out_of : Headers → Item → List Leaving
out_of h i = map (done_by h) (action_at i.0 i.1)

abbrev pub outs : Headers → List Item → List Leaving
outs h items = union_over (out_of h) items

pub left-outs : (h : Headers) (items : List Item) → SameMembers (map (done_by h) (actions_of items)) (outs h items)
left-outs h items =
    SetLemmas.same_trans (SetLemmas.same_map (done_by h) (ordered_actions (actions_in items)))
    (SetLemmas.same_eq (SetLemmas.map-union (done_by h) (λ (i : Item). action_at i.0 i.1) items))

same_outs : (h : Headers) (xs ys : List Item) → SameMembers xs ys → SameMembers (outs h xs) (outs h ys)
same_outs h xs ys s = SetLemmas.same_union (out_of h) (out_of h) s (λ i. SetLemmas.same_refl (out_of h i))

outs-add_all : (h : Headers) (xs ys : List Item) → SameMembers (outs h (add_all xs ys)) (outs h xs ++ outs h ys)
outs-add_all h xs ys = SetLemmas.same_trans (same_outs h (add_all xs ys) (xs ++ ys) (same_add_all xs ys)) (SetLemmas.same_eq (union-append (out_of h) xs ys))

-- ---- what leaves by a receiver's items

abbrev leaves : Headers → Option PortNo → List Leaving
leaves h None = []
leaves h (Some port) = record { headers = h; port = port } ∷ []

leaves-exit : (hop : PortNo) (h : Headers) (l : Loc) → leaves h (exit_of hop l) ≡ leaves_by hop h l
leaves-exit hop h Stay = refl
leaves-exit hop h (To who) = refl
leaves-exit hop h (Out port) = refl
leaves-exit hop h Nowhere = refl

outs-exit : (h : Headers) (kept : List Item) (set : Assign) (o : Option PortNo) → SameMembers (outs h (add_exit kept set o)) (outs h kept ++ leaves (apply set h) o)
outs-exit h kept set None = SetLemmas.same_eq (sym (append-nil (outs h kept)))
outs-exit h kept set (Some port) = outs-add_all h kept ((set, Out port) ∷ [])

abbrev exits_in : PortNo → Headers → List Item → List Leaving
exits_in hop h items = union_over (λ (i : Item). leaves (apply i.0 h) (exit_of hop i.1)) items

outs-exits : (hop : PortNo) (h : Headers) (kept items : List Item) → SameMembers (outs h (add_exits hop kept items)) (outs h kept ++ exits_in hop h items)
outs-exits hop h kept [] = SetLemmas.same_eq (sym (append-nil (outs h kept)))
outs-exits hop h kept (i ∷ items) =
    SetLemmas.same_trans (outs-exits hop h (add_exit kept i.0 (exit_of hop i.1)) items)
    (SetLemmas.same_trans (SetLemmas.same_append (outs-exit h kept i.0 (exit_of hop i.1)) (SetLemmas.same_refl (exits_in hop h items)))
    (SetLemmas.same_eq (append_assoc (outs h kept) (leaves (apply i.0 h) (exit_of hop i.1)) (exits_in hop h items))))

arrived-Stay : (l : Loc) → arrived Stay l ≡ l
arrived-Stay Stay = refl
arrived-Stay (To who) = refl
arrived-Stay (Out port) = refl
arrived-Stay Nowhere = refl

-- what leaves by a receiver's items is what it makes of the packet
outs-received : (hop : PortNo) (h : Headers) (items : List Item) → SameMembers (outs h (received_items hop items)) (or_unchanged hop h (map (carried h Stay) items))
outs-received hop h [] = SetLemmas.same_refl _
outs-received hop h (i ∷ items) =
    SetLemmas.same_trans (outs-exits hop h [] (i ∷ items)) (SetLemmas.same_eq (sym (
    SetLemmas.union-map (λ (packet : Packet). leaves_by hop packet.0 packet.1) (carried h Stay) (i ∷ items)
    ∙ SetLemmas.union_ext (λ (j : Item). leaves_by hop (apply j.0 h) (arrived Stay j.1)) (λ (j : Item). leaves (apply j.0 h) (exit_of hop j.1)) (i ∷ items)
    (λ (j : Item). ap (λ l. leaves_by hop (apply j.0 h) l) (arrived-Stay j.1) ∙ sym (leaves-exit hop (apply j.0 h) j.1)))))

-- ---- what leaves by the items of all receivers

module _ (left : Bool) (best : Pid) (items : List Item) (h : Headers) where
  -- what leaves by one receiver
  abbrev by_receiver : Receiver → List Leaving
  by_receiver r = cond (goes_to left best items r.who) (outs h (given r.lines h)) []

  outs-gathered : (kept : List Item) (rs : List Receiver) → SameMembers (outs h (gathered left best items h kept rs)) (outs h kept ++ union_over by_receiver rs)
  outs-gathered kept [] = SetLemmas.same_eq (sym (append-nil (outs h kept)))
  outs-gathered kept (r ∷ rs) =
      SetLemmas.same_trans (outs-gathered (cond (goes_to left best items r.who) (add_all kept (given r.lines h)) kept) rs)
      (SetLemmas.same_trans (SetLemmas.same_append (of (goes_to left best items r.who)) (SetLemmas.same_refl (union_over by_receiver rs)))
      (SetLemmas.same_eq (append_assoc (outs h kept) (by_receiver r) (union_over by_receiver rs))))
    where
      of : (b : Bool) → SameMembers (outs h (cond b (add_all kept (given r.lines h)) kept)) (outs h kept ++ cond b (outs h (given r.lines h)) [])
      of true = outs-add_all h kept (given r.lines h)
      of false = SetLemmas.same_eq (sym (append-nil (outs h kept)))

module _ (inbound : Pid → List Line) (p : Part) (h : Headers) (total : (o : Offer) → Member o p.offers → ends_with_everything (inbound o.exporter) ≡ true) where
  -- what leaves by one offer
  abbrev by_offer : List Item → Offer → List Leaving
  by_offer items o = by_receiver (has_one_left p.offers items) p.best items h (receiver inbound o)

  -- what the rules of a participant make of a packet
  abbrev makes : Pid → Headers → List Packet
  makes who g = meaning (inbound who) g Stay

  -- what becomes of a packet that was sent there
  abbrev received : Loc → List Leaving
  received l = received_past makes p h l

  -- what leaves by the rules of an offer is what becomes of a packet that was sent to its participant
  outs-offer : each_once p.offers ≡ true → (o : Offer) → Member o p.offers → SameMembers (outs h (given (receiver inbound o).lines h)) (received (To o.exporter))
  outs-offer once o stands =
      subst (λ b. SameMembers (outs h (given (receiver inbound o).lines h)) (received_from makes (offered_port p.offers) h (cond b Nowhere (To o.exporter)))) (sym (hole-stands p.offers o once stands)) (of o.hole)
    where
      of : (b : Bool) → SameMembers (outs h (given (cond b discarding (received_lines o.port (inbound o.exporter))) h)) (received_from makes (offered_port p.offers) h (cond b Nowhere (To o.exporter)))
      of true = SetLemmas.same_eq (ap (λ b. outs h (unwrap_or (cond b (Some []) None) [])) (has-everything h))
      of false =
          subst (λ q. SameMembers (outs h (given (received_lines o.port (inbound o.exporter)) h)) (or_unchanged q h (makes o.exporter h))) (sym (port-stands p.offers o once stands))
          (SetLemmas.same_trans (SetLemmas.same_eq (ap (outs h) (given-received o.port (inbound o.exporter) h (total o stands)))) (outs-received o.port h (given (inbound o.exporter) h)))

  sent-carried : (items : List Item) → sent_plain p (map (carried h Stay) items) ≡ sent_all p.best p.offers items
  sent-carried items = ap (or_default no_hole p.best) (
      SetLemmas.union-map (λ (packet : Packet). sent_to (is_offered p.offers) no_hole p.best packet.1) (carried h Stay) items
      ∙ SetLemmas.union_ext (λ (i : Item). sent_to (is_offered p.offers) no_hole p.best (arrived Stay i.1)) (λ (i : Item). sent_to (is_offered p.offers) no_hole p.best i.1) items (λ (i : Item). ap (sent_to (is_offered p.offers) no_hole p.best) (arrived-Stay i.1)))

  offers-onto : (items : List Item) → each_once p.offers ≡ true → (x : Leaving) → Member x (union_over (by_offer items) p.offers) → Member x (union_over received (sent_all p.best p.offers items))
  offers-onto items once x k =
      let s = SetLemmas.union-Member (by_offer items) p.offers x k in
      let o : Offer = s.of in
      let parts = from (outs h (given (receiver inbound o).lines h)) (goes_to (has_one_left p.offers items) p.best items o.exporter) (goes_to (has_one_left p.offers items) p.best items o.exporter) refl s.gives in
      SetLemmas.Member-union received (sent_all p.best p.offers items) (To o.exporter) x
      (goes-sent p.best o.exporter p.offers items (stands-offered p.offers o s.stands) parts.0)
      ((outs-offer once o s.stands).onto x parts.1)
    where
      from : (ys : List Leaving) (b g : Bool) → g ≡ b → Member x (cond b ys []) → (g ≡ true) × Member x ys
      from ys true g e m = (e, m)
      from ys false g e m = elim m [ ]

  offers-back : (items : List Item) → each_once p.offers ≡ true → is_offered p.offers p.best ≡ true → (x : Leaving) → Member x (union_over received (sent_all p.best p.offers items)) → Member x (union_over (by_offer items) p.offers)
  offers-back items once there x k =
      let s = SetLemmas.union-Member received (sent_all p.best p.offers items) x k in
      at s.of s.stands s.gives
    where
      by : (who : Pid) → Member (To who) (sent_all p.best p.offers items) → Member x (received (To who)) → Member x (union_over (by_offer items) p.offers)
      by who stands m =
          let o = offered-from p.offers who (sent-offered p (map (carried h Stay) items) who there (subst (Member (To who)) (sym (sent-carried items)) stands)) in
          let goes : goes_to (has_one_left p.offers items) p.best items o.offer.exporter ≡ true =
          ap (goes_to (has_one_left p.offers items) p.best items) o.mine ∙ sent-goes p.best who p.offers items stands in
          SetLemmas.Member-union (by_offer items) p.offers o.offer x o.stands
          (subst (λ b. Member x (cond b (outs h (given (receiver inbound o.offer).lines h)) [])) (sym goes)
          ((outs-offer once o.offer o.stands).back x (subst (λ w. Member x (received (To w))) (sym o.mine) m)))

      at : (l : Loc) → Member l (sent_all p.best p.offers items) → Member x (received l) → Member x (union_over (by_offer items) p.offers)
      at Stay stands m = elim m [ ]
      at (To who) stands m = by who stands m
      at (Out port) stands m = elim m [ ]
      at Nowhere stands m = elim m [ ]

  -- the items of all receivers leave as the answer says
  pub outs-answer : (outbound : List Line) → each_once p.offers ≡ true → is_offered p.offers p.best ≡ true
      → SameMembers (outs h (gathered_by p.best p.offers (receivers inbound p.offers) h (given outbound h))) (answer_from (λ g. meaning outbound g Stay) makes p h)
  outs-answer outbound once there =
      SetLemmas.same_trans (outs-gathered (has_one_left p.offers (given outbound h)) p.best (given outbound h) h [] (receivers inbound p.offers))
      (SetLemmas.same_trans (SetLemmas.same_eq (SetLemmas.union-map (by_receiver (has_one_left p.offers (given outbound h)) p.best (given outbound h) h) (receiver inbound) p.offers))
      (SetLemmas.same_trans (record { onto = offers-onto (given outbound h) once; back = offers-back (given outbound h) once there })
      (SetLemmas.same_eq (ap (union_over received) (sym (sent-carried (given outbound h))) ∙ sym (answer-past (λ g. meaning outbound g Stay) makes p h)))))
