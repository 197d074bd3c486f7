-- What is right for a view is right for the policies that its classifiers were made of.
use Rattle.std.proofs.Common.{◌≡◌, Bool, true, false, ◌&&◌, cond, Option, Some, None, List, [], ◌∷◌, refl, inl, inr, sym, ap, ◌∙◌, subst}
use Rattle.std.specs.Prelude.{nat_eq}
use Rattle.std.proofs.lemmas.Bool.{and_parts}
use Rattle.classifier.specs.Meaning as lines
use Rattle.net_types.proofs.CubeLemmas.{has_option, has-meet, has-met, has-everything, option_ext, some_from_has, witness}
use Rattle.net_types.proofs.MeetLemmas.{IsMeet-everything, IsMeet-meet, IsMeet-member, IsMeet-wider, IsMeet-append_left, IsMeet-append_right, meets-IsMeet}
use Rattle.net_types.proofs.SetLemmas
use Rattle.net_types.proofs.WidthLemmas.{no_longer, meets-HasNoRepeats}
use Rattle.net_types.proofs.MeetLemmas.{IsMeet-meets}
use Rattle.net_types.specs.Answers.{Policies, is_offered, leaves_by, offered_hole, offered_port, or_unchanged, part_answer, policy_of, received_at, sent}
use Rattle.net_types.specs.Cells.{cell_atoms, freed, freed_from}
use Rattle.net_types.specs.Cubes.{has, everything, agrees, same_port}
use Rattle.net_types.specs.Meets.{IsMeet, meets}
use Rattle.net_types.specs.Policies.{Packet, atoms, den}
use Rattle.net_types.specs.Sets.{Member, SameMembers, union_over}
use Rattle.net_types.specs.declared.address.Pid.{Pid}
use Rattle.net_types.specs.declared.address.PortNo.{PortNo}
use Rattle.net_types.specs.declared.cube.Cube.{Cube}
use Rattle.net_types.specs.declared.headers.Headers.{Headers}
use Rattle.net_types.specs.declared.headers.Loc.{Loc}
use Rattle.net_types.specs.declared.headers.Loc.TheVariants.{Stay, To, Out, Nowhere}
use Rattle.net_types.specs.declared.route.Offer.{Offer}
use Rattle.net_types.specs.declared.route.Part.{Part}
use Rattle.block_build.proofs.OfferLemmas.{offered-from}
use Rattle.block_build.proofs.SentLemmas.{answer-past, received_past, sent_plain, sent-offered, same_sent}
use Rattle.block_build.specs.Laws.{IsViewOf, RightForPolicies, RightForViews, NoMoreCells}
use Rattle.block_build.specs.Outcomes.{Makes, answer_from, atoms_from, received_from}
use Rattle.block_build.specs.Right.{view_answer, view_atoms}
use Rattle.block_build.specs.Views.{Viewed, inbound_of}
use Rattle.std.proofs.lemmas.Option.{same_Some}
use Rattle.block_build.proofs.InportLemmas.{through}
use Rattle.block_build.proofs.DecideBlocks.{agrees_besides}

-- ---- the answer depends on sets alone

same_unchanged : (hop : PortNo) (h : Headers) (xs ys : List Packet) → SameMembers xs ys → SameMembers (or_unchanged hop h xs) (or_unchanged hop h ys)
same_unchanged hop h [] [] s = SetLemmas.same_refl _
same_unchanged hop h [] (y ∷ ys) s = elim (s.back y (inl refl)) [ ]
same_unchanged hop h (x ∷ xs) [] s = elim (s.onto x (inl refl)) [ ]
same_unchanged hop h (x ∷ xs) (y ∷ ys) s =
    SetLemmas.same_union (λ (p : Packet). leaves_by hop p.0 p.1) (λ (p : Packet). leaves_by hop p.0 p.1) s (λ (p : Packet). SetLemmas.same_refl (leaves_by hop p.0 p.1))

module _ (p : Part) (h : Headers) (there : is_offered p.offers p.best ≡ true) where
  -- what becomes of a packet that was sent somewhere, where the participants in the offers make the same sets
  same_received : (inbound others : Pid → Makes) → ((o : Offer) → Member o p.offers → SameMembers (inbound o.exporter h) (others o.exporter h)) → (packets : List Packet) (l : Loc) → Member l (sent_plain p packets)
      → SameMembers (received_past inbound p h l) (received_past others p h l)
  same_received inbound others s packets Stay k = SetLemmas.same_refl []
  same_received inbound others s packets (To who) k =
      let o = offered-from p.offers who (sent-offered p packets who there k) in
      of (offered_hole p.offers who) (same_unchanged (offered_port p.offers who) h (inbound who h) (others who h) (subst (λ w. SameMembers (inbound w h) (others w h)) o.mine (s o.offer o.stands)))
    where
      of : (b : Bool) → SameMembers (or_unchanged (offered_port p.offers who) h (inbound who h)) (or_unchanged (offered_port p.offers who) h (others who h))
          → SameMembers (received_from inbound (offered_port p.offers) h (cond b Nowhere (To who))) (received_from others (offered_port p.offers) h (cond b Nowhere (To who)))
      of true same = SetLemmas.same_refl []
      of false same = same
  same_received inbound others s packets (Out n) k = SetLemmas.same_refl []
  same_received inbound others s packets Nowhere k = SetLemmas.same_refl []

  pub same_answer : (outbound outbound' : Makes) (inbound others : Pid → Makes) → SameMembers (outbound h) (outbound' h) → ((o : Offer) → Member o p.offers → SameMembers (inbound o.exporter h) (others o.exporter h))
      → SameMembers (answer_from outbound inbound p h) (answer_from outbound' others p h)
  same_answer outbound outbound' inbound others s t =
      let same = same_sent p (outbound h) (outbound' h) s in
      SetLemmas.same_trans (SetLemmas.same_eq (answer-past outbound inbound p h)) (SetLemmas.same_trans (record {
        onto = λ x k.
            let i = SetLemmas.union-Member (received_past inbound p h) (sent_plain p (outbound h)) x k in
            SetLemmas.Member-union (received_past others p h) (sent_plain p (outbound' h)) i.of x (same.onto i.of i.stands)
            ((same_received inbound others t (outbound h) i.of i.stands).onto x i.gives);
        back = λ x k.
            let i = SetLemmas.union-Member (received_past others p h) (sent_plain p (outbound' h)) x k in
            let stands = same.back i.of i.stands in
            SetLemmas.Member-union (received_past inbound p h) (sent_plain p (outbound h)) i.of x stands
            ((same_received inbound others t (outbound h) i.of stands).back x i.gives);
      }) (SetLemmas.same_eq (sym (answer-past outbound' others p h))))

-- by policies it is the part's answer
policy_answer : (ps : Policies) (p : Part) (h : Headers) → answer_from (λ g. den ps.named (policy_of ps.outbound p.sender) g Stay) (λ who g. den ps.named (policy_of ps.inbound who) g Stay) p h ≡ part_answer ps p h
policy_answer ps p h =
    SetLemmas.union_ext (received_from (λ who g. den ps.named (policy_of ps.inbound who) g Stay) (offered_port p.offers) h) (received_at ps (offered_port p.offers) h) (sent ps.named (policy_of ps.outbound p.sender) (is_offered p.offers) (offered_hole p.offers) p.best h) each
  where
    each : (l : Loc) → received_from (λ who g. den ps.named (policy_of ps.inbound who) g Stay) (offered_port p.offers) h l ≡ received_at ps (offered_port p.offers) h l
    each Stay = refl
    each (To who) = refl
    each (Out n) = refl
    each Nowhere = refl

-- ---- cubes at a port

-- the cube of what comes in by a port, with its inport freed, where there is one
abbrev at_port : PortNo → Cube → Option PortNo → Option Cube
at_port port c None = Some c
at_port port c (Some q) = cond (nat_eq q.0 port.0) (Some (record c { inport = None })) None

has-at : (port : PortNo) (c : Cube) (h : Headers) (wanted : Option PortNo) → c.inport ≡ wanted → has_option (at_port port c wanted) h ≡ (agrees same_port wanted port && agrees_besides c h)
unfolding has
has-at port c h None w = ap (λ o. agrees same_port o h.inport && agrees_besides c h) w
has-at port c h (Some q) w = of (nat_eq q.0 port.0)
  where
    of : (b : Bool) → has_option (cond b (Some (record c { inport = None })) None) h ≡ (b && agrees_besides c h)
    of true = refl
    of false = refl

has-coming : (port : PortNo) (c : Cube) (h : Headers) → has_option (at_port port c c.inport) h ≡ has c (through port h)
unfolding has
has-coming port c h = has-at port c h c.inport refl

at-freed : (port : PortNo) (c d : Cube) (wanted : Option PortNo) → at_port port c wanted ≡ Some d → Member d (freed_from port c wanted)
at-freed port c d None e = inl (same e)
  where
    same : Some c ≡ Some d → d ≡ c
    same e = cc
at-freed port c d (Some q) e = of (nat_eq q.0 port.0) e
  where
    same : Some (record c { inport = None }) ≡ Some d → d ≡ record c { inport = None }
    same e = cc

    of : (b : Bool) → cond b (Some (record c { inport = None })) None ≡ Some d → Member d (cond b (record c { inport = None } ∷ []) [])
    of true e = inl (same e)
    of false e = absurd (cc)

freed-at : (port : PortNo) (c d : Cube) (wanted : Option PortNo) → Member d (freed_from port c wanted) → at_port port c wanted ≡ Some d
freed-at port c d None (inl e) = ap Some (sym e)
freed-at port c d None (inr k) = elim k [ ]
freed-at port c d (Some q) k = of (nat_eq q.0 port.0) k
  where
    of : (b : Bool) → Member d (cond b (record c { inport = None } ∷ []) []) → cond b (Some (record c { inport = None })) None ≡ Some d
    of true (inl e) = ap Some (sym e)
    of true (inr m) = elim m [ ]
    of false m = elim m [ ]

-- ---- meets seen through a change of the headers

-- a cube of the headers that a change takes into another cube
module _ (seen : Cube → Option Cube) (change : Headers → Headers) (law : (c : Cube) (h : Headers) → has_option (seen c) h ≡ has c (change h)) where
  has-seen : (a c : Cube) (h : Headers) → seen a ≡ Some c → has c h ≡ has a (change h)
  has-seen a c h e = sym (ap (λ o. has_option o h) e) ∙ law a h

  seen-everything : seen everything ≡ Some everything
  seen-everything = option_ext _ (Some everything) (λ h. law everything h ∙ has-everything (change h) ∙ sym (has-everything h))

  -- where the cubes of one list become meets of another, so do the meets
  pub IsMeet-seen : (atoms others : List Cube) → ((a d : Cube) → Member a atoms → seen a ≡ Some d → IsMeet others d) → (c d : Cube) → IsMeet atoms c → seen c ≡ Some d → IsMeet others d
  IsMeet-seen [] others each c d h e =
      let same : Some d ≡ Some everything = sym e ∙ ap (λ x. seen x) h ∙ seen-everything in
      subst (λ x. IsMeet others x) (sym (same_Some _ _ same)) (IsMeet-everything others)
  IsMeet-seen (a ∷ atoms) others each c d (inl h) e = IsMeet-seen atoms others (λ b x k. each b x (inr k)) c d h e
  IsMeet-seen (a ∷ atoms) others each c d (inr h) e =
      let w = witness d in
      let in_c : has c (change w.headers) ≡ true = sym (has-seen c d w.headers e) ∙ w.inside in
      let both = and_parts (has a (change w.headers)) (has h.0 (change w.headers)) (sym (has-met a h.0 c (change w.headers) h.2) ∙ in_c) in
      let first = some_from_has (seen a) w.headers (law a w.headers ∙ both.0) in
      let second = some_from_has (seen h.0) w.headers (law h.0 w.headers ∙ both.1) in
      IsMeet-meet others first.0 second.0 d (each a first.0 (inl refl) first.1) (IsMeet-seen atoms others (λ b x k. each b x (inr k)) h.0 second.0 h.1 second.1)
      (option_ext _ (Some d) (λ x.
      has-meet first.0 second.0 x ∙ ap (λ t. t && has second.0 x) (has-seen a first.0 x first.1) ∙ ap (λ t. has a (change x) && t) (has-seen h.0 second.0 x second.1)
      ∙ sym (has-seen c d x e ∙ has-met a h.0 c (change x) h.2)))

-- where the cubes of a sender and of its receivers are meets of some atoms, each that counts for a port and a part is one of those
pub atoms_wider : (port : PortNo) (p : Part) (cubes all : List Cube) (inbound others : Pid → List Cube)
    → ((c : Cube) → Member c cubes → IsMeet all c)
    → ((o : Offer) → Member o p.offers → (c : Cube) → Member c (inbound o.exporter) → IsMeet (others o.exporter) c)
    → (c : Cube) → Member c (atoms_from port cubes inbound p) → IsMeet (atoms_from port all others p) c
atoms_wider port p cubes all inbound others out ins c h =
    let mine = union_over (freed port) all in
    let theirs = union_over (λ (o : Offer). others o.exporter) p.offers in
    elim (SetLemmas.Member-append_cases (union_over (freed port) cubes) (union_over (λ (o : Offer). inbound o.exporter) p.offers) c h) [
      | inl k ↦
          let s = SetLemmas.union-Member (freed port) cubes c k in
          IsMeet-append_left mine theirs c
          (IsMeet-seen (λ a. at_port port a a.inport) (through port) (has-coming port) all mine
          (λ a d stands e. IsMeet-member mine d (SetLemmas.Member-union (freed port) all a d stands (at-freed port a d a.inport e)))
          s.of c (out s.of s.stands) (freed-at port s.of c s.of.inport s.gives))
      | inr k ↦
          let s = SetLemmas.union-Member (λ (o : Offer). inbound o.exporter) p.offers c k in
          IsMeet-append_right mine theirs c
          (IsMeet-wider (others s.of.exporter) theirs (λ a stands. IsMeet-member theirs a (SetLemmas.Member-union (λ (o : Offer). others o.exporter) p.offers s.of a s.stands stands)) c (ins s.of s.stands c s.gives))
    ]

view_wider : (ps : Policies) (part : Part) (port : PortNo) (v : Viewed) → IsViewOf ps part v → (c : Cube) → Member c (view_atoms v port part) → IsMeet (cell_atoms ps port part) c
view_wider ps part port v is =
    atoms_wider port part (lines.cubes_of v.outbound) (atoms (policy_of ps.outbound part.sender)) (λ who. lines.cubes_of (inbound_of v who)) (λ who. atoms (policy_of ps.inbound who)) is.sender_cubes is.receiver_cubes

-- ---- the laws

-- by a view and by the policies that its classifiers were made of the answers are the same
same_answers : (ps : Policies) (part : Part) (v : Viewed) → is_offered part.offers part.best ≡ true → IsViewOf ps part v → (h : Headers) → SameMembers (view_answer v part h) (part_answer ps part h)
same_answers ps part v there is h =
    SetLemmas.same_trans
    (same_answer part h there (λ x. lines.meaning v.outbound x Stay) (λ x. den ps.named (policy_of ps.outbound part.sender) x Stay) (λ who x. lines.meaning (inbound_of v who) x Stay) (λ who x. den ps.named (policy_of ps.inbound who) x Stay)
    (is.sends h) (λ o k. is.receives o k h))
    (SetLemmas.same_eq (policy_answer ps part h))

pub right_for_policies : RightForPolicies
right_for_policies ps part port v rules there is right = record {
  gives = λ h valid e. let g = right.gives h valid e in (g.0, g.1, SetLemmas.same_trans g.2 (same_answers ps part v there is h));
  differ = right.differ;
  meets = λ c k. IsMeet-wider (view_atoms v port part) (cell_atoms ps port part) (view_wider ps part port v is) c (right.meets c k);
  ordered = right.ordered;
}

pub right_for_views : RightForViews
right_for_views ps part port v rules there is right = record {
  gives = λ h valid e. let g = right.gives h valid e in (g.0, g.1, SetLemmas.same_trans g.2 (SetLemmas.same_sym (same_answers ps part v there is h)));
  differ = right.differ;
  meets = right.meets;
  ordered = right.ordered;
}

pub no_more_cells : NoMoreCells
no_more_cells ps part port v is =
    no_longer (meets (view_atoms v port part)) (meets (cell_atoms ps port part)) (meets-HasNoRepeats (view_atoms v port part))
    (λ c k. IsMeet-meets (cell_atoms ps port part) c (IsMeet-wider (view_atoms v port part) (cell_atoms ps port part) (view_wider ps part port v is) c (meets-IsMeet (view_atoms v port part) c k)))
