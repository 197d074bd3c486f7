-- Of several offers with the same exporter the first one counts: what is right for the part with that one alone is right.
use Rattle.std.proofs.Common.{◌≡◌, Bool, true, false, not, ◌&&◌, ◌||◌, cond, Option, Some, List, [], ◌∷◌, refl, inl, inr, sym, ap, ◌∙◌}
use Rattle.std.specs.Prelude.{find, is_some, nat_eq}
use Rattle.std.specs.Option.{option_map_or}
use Rattle.std.proofs.lemmas.Bool.{and_from, false≢true, or_parts}
use Rattle.block_build.proofs.OfferLemmas.{pid_exact}
use Rattle.block_build.specs.Offers.{each_once}
use Rattle.events.specs.Sound.{IsRight}
use Rattle.net_types.proofs.MeetLemmas.{IsMeet-member, IsMeet-wider}
use Rattle.net_types.proofs.SetLemmas
use Rattle.net_types.specs.Answers.{Policies, answer_by, is_offered, offered_hole, offered_port, part_answer, policy_of}
use Rattle.net_types.specs.Cells.{cell_atoms, freed}
use Rattle.net_types.specs.Policies.{atoms}
use Rattle.net_types.specs.Sets.{Member, union_over}
use Rattle.net_types.specs.declared.address.Pid.{Pid}
use Rattle.net_types.specs.declared.address.PortNo.{PortNo}
use Rattle.net_types.specs.declared.cube.Cube.{Cube}
use Rattle.net_types.specs.declared.headers.Headers.{Headers}
use Rattle.net_types.specs.declared.route.Offer.{Offer}
use Rattle.net_types.specs.declared.route.Part.{Part}
use Rattle.net_types.specs.declared.rule.Rule.{Rule}

-- ---- the first offers

-- the offers of other participants
abbrev without : Pid → List Offer → List Offer
without who [] = []
without who (o ∷ os) = cond (nat_eq o.exporter.0 who.0) (without who os) (o ∷ without who os)

-- the first offer of each participant
abbrev pub firsts : List Offer → List Offer
firsts [] = []
firsts (o ∷ os) = o ∷ without o.exporter (firsts os)

-- the first offer of a participant
abbrev found : List Offer → Pid → Option Offer
found offers who = find (λ (o : Offer). nat_eq o.exporter.0 who.0) offers

-- ---- what is found is the same

found-without : (w who : Pid) (os : List Offer) → nat_eq w.0 who.0 ≡ false → found (without w os) who ≡ found os who
found-without w who [] apart = refl
found-without w who (o ∷ os) apart = of (nat_eq o.exporter.0 w.0) refl (found-without w who os apart)
  where
    of : (b : Bool) → nat_eq o.exporter.0 w.0 ≡ b → found (without w os) who ≡ found os who → found (cond b (without w os) (o ∷ without w os)) who ≡ found (o ∷ os) who
    of true e rest = rest ∙ sym (ap (λ b. cond b (Some o) (found os who)) (ap (λ (x : Pid). nat_eq x.0 who.0) (pid_exact o.exporter w e) ∙ apart))
    of false e rest = ap (λ x. cond (nat_eq o.exporter.0 who.0) (Some o) x) rest

found-firsts : (os : List Offer) (who : Pid) → found (firsts os) who ≡ found os who
found-firsts [] who = refl
found-firsts (o ∷ os) who = of (nat_eq o.exporter.0 who.0) refl (found-firsts os who)
  where
    of : (b : Bool) → nat_eq o.exporter.0 who.0 ≡ b → found (firsts os) who ≡ found os who → cond b (Some o) (found (without o.exporter (firsts os)) who) ≡ cond b (Some o) (found os who)
    of true e rest = refl
    of false e rest = found-without o.exporter who (firsts os) e ∙ rest

offered-found : (os : List Offer) (who : Pid) → is_offered os who ≡ is_some (found os who)
offered-found [] who = refl
offered-found (o ∷ os) who = of (nat_eq o.exporter.0 who.0) (offered-found os who)
  where
    of : (b : Bool) → is_offered os who ≡ is_some (found os who) → (b || is_offered os who) ≡ is_some (cond b (Some o) (found os who))
    of true rest = refl
    of false rest = rest

pub offered-firsts : (os : List Offer) (who : Pid) → is_offered (firsts os) who ≡ is_offered os who
offered-firsts os who = offered-found (firsts os) who ∙ ap is_some (found-firsts os who) ∙ sym (offered-found os who)

-- ---- each exporter stands once

gone : (w : Pid) (os : List Offer) → is_offered (without w os) w ≡ false
gone w [] = refl
gone w (o ∷ os) = of (nat_eq o.exporter.0 w.0) refl (gone w os)
  where
    of : (b : Bool) → nat_eq o.exporter.0 w.0 ≡ b → is_offered (without w os) w ≡ false → is_offered (cond b (without w os) (o ∷ without w os)) w ≡ false
    of true e rest = rest
    of false e rest = ap (λ b. b || is_offered (without w os) w) e ∙ rest

stays-out : (w who : Pid) (os : List Offer) → is_offered os who ≡ false → is_offered (without w os) who ≡ false
stays-out w who [] e = refl
stays-out w who (o ∷ os) e =
    let p = or_parts (nat_eq o.exporter.0 who.0) (is_offered os who) e in
    of (nat_eq o.exporter.0 w.0) p.0 (stays-out w who os p.1)
  where
    of : (b : Bool) → nat_eq o.exporter.0 who.0 ≡ false → is_offered (without w os) who ≡ false → is_offered (cond b (without w os) (o ∷ without w os)) who ≡ false
    of true apart rest = rest
    of false apart rest = ap (λ b. b || is_offered (without w os) who) apart ∙ rest

once-without : (w : Pid) (os : List Offer) → each_once os ≡ true → each_once (without w os) ≡ true
once-without w [] e = refl
once-without w (o ∷ os) e = of (nat_eq o.exporter.0 w.0) (is_offered os o.exporter) refl (each_once os) (once-without w os) e
  where
    of : (b : Bool) (there : Bool) → is_offered os o.exporter ≡ there → (rest : Bool) → (rest ≡ true → each_once (without w os) ≡ true) → (not there && rest) ≡ true → each_once (cond b (without w os) (o ∷ without w os)) ≡ true
    of b true same rest once f = absurd (false≢true f)
    of b false same false once f = absurd (false≢true f)
    of true false same true once f = once refl
    of false false same true once f = and_from _ _ (ap not (stays-out w o.exporter os same)) (once refl)

pub once-firsts : (os : List Offer) → each_once (firsts os) ≡ true
once-firsts [] = refl
once-firsts (o ∷ os) = and_from _ _ (ap not (gone o.exporter (firsts os))) (once-without o.exporter (firsts os) (once-firsts os))

-- ---- they stand among all

Member-without : (w : Pid) (os : List Offer) (o : Offer) → Member o (without w os) → Member o os
Member-without w [] o k = k
Member-without w (x ∷ xs) o k = of (nat_eq x.exporter.0 w.0) (Member-without w xs o) k
  where
    of : (b : Bool) → (Member o (without w xs) → Member o xs) → Member o (cond b (without w xs) (x ∷ without w xs)) → Member o (x ∷ xs)
    of true rest m = inr (rest m)
    of false rest (inl e) = inl e
    of false rest (inr m) = inr (rest m)

Member-firsts : (os : List Offer) (o : Offer) → Member o (firsts os) → Member o os
Member-firsts [] o k = k
Member-firsts (x ∷ xs) o (inl e) = inl e
Member-firsts (x ∷ xs) o (inr k) = inr (Member-firsts xs o (Member-without x.exporter (firsts xs) o k))

-- ---- rules

-- the part with the first offers alone
abbrev pub first_part : Part → Part
first_part part = record part { offers = firsts part.offers }

same_answer : (ps : Policies) (part : Part) (h : Headers) → part_answer ps (first_part part) h ≡ part_answer ps part h
same_answer ps part h = λ i. answer_by ps part.sender (λ who. offered-firsts part.offers who i) (λ who. hole who i) part.best (λ who. port who i) h
  where
    hole : (who : Pid) → offered_hole (firsts part.offers) who ≡ offered_hole part.offers who
    hole who = ap (λ o. option_map_or (λ (x : Offer). x.hole) o false) (found-firsts part.offers who)

    port : (who : Pid) → offered_port (firsts part.offers) who ≡ offered_port part.offers who
    port who = ap (λ o. option_map_or (λ (x : Offer). x.port) o (record { 0 = 0 })) (found-firsts part.offers who)

more_atoms : (ps : Policies) (part : Part) (port : PortNo) (c : Cube) → Member c (cell_atoms ps port (first_part part)) → Member c (cell_atoms ps port part)
more_atoms ps part port c k =
    let mine = union_over (freed port) (atoms (policy_of ps.outbound part.sender)) in
    let theirs : Offer → List Cube = λ o. atoms (policy_of ps.inbound o.exporter) in
    elim (SetLemmas.Member-append_cases mine (union_over theirs (firsts part.offers)) c k) [
      | inl m ↦ SetLemmas.Member-append_left mine (union_over theirs part.offers) c m
      | inr m ↦
          let s = SetLemmas.union-Member theirs (firsts part.offers) c m in
          SetLemmas.Member-append_right mine (union_over theirs part.offers) c (SetLemmas.Member-union theirs part.offers s.of c (Member-firsts part.offers s.of s.stands) s.gives)
    ]

pub firsts_right : (ps : Policies) (part : Part) (port : PortNo) (rules : List Rule) → IsRight ps (first_part part) port rules → IsRight ps part port rules
firsts_right ps part port rules right = record {
  gives = λ h valid e. let g = right.gives h valid e in (g.0, g.1, SetLemmas.same_trans g.2 (SetLemmas.same_eq (same_answer ps part h)));
  differ = right.differ;
  meets = λ c k. IsMeet-wider (cell_atoms ps port (first_part part)) (cell_atoms ps port part) (λ a m. IsMeet-member (cell_atoms ps port part) a (more_atoms ps part port a m)) c (right.meets c k);
  ordered = right.ordered;
}
