-- Participants in offers, and the ports of their offers.
use Rattle.std.proofs.Common.{◌≡◌, Bool, true, false, not, ◌||◌, cond, List, [], ◌∷◌, refl, inl, inr, sym, ap, ◌∙◌}
use Rattle.std.specs.Prelude.{Some, find, nat_eq}
use Rattle.std.specs.Option.{option_map_or}
use Rattle.std.proofs.lemmas.Bool.{cases_Bool, eqb-true, eq-eqb, and_parts, false≢true, not-true}
use Rattle.net_types.specs.Answers.{is_offered, offered_hole, offered_port}
use Rattle.net_types.specs.Sets.{Member}
use Rattle.net_types.specs.declared.address.Pid.{Pid}
use Rattle.net_types.specs.declared.route.Offer.{Offer}
use Rattle.block_build.specs.Offers.{each_once}

-- ---- numbers of participants

pub pid_exact : (a b : Pid) → nat_eq a.0 b.0 ≡ true → a ≡ b
pid_exact a b h = ap (λ n. let who : Pid = record { 0 = n } in who) (eqb-true a.0 b.0 h)

pub pid_refl : (a : Pid) → nat_eq a.0 a.0 ≡ true
pid_refl a = eq-eqb a.0 a.0 refl

-- ---- offers

pub stands-offered : (offers : List Offer) (o : Offer) → Member o offers → is_offered offers o.exporter ≡ true
stands-offered [] o h = elim h [ ]
stands-offered (x ∷ xs) o (inl e) = ap (λ b. b || is_offered xs o.exporter) (ap (λ (z : Offer). nat_eq z.exporter.0 o.exporter.0) (sym e) ∙ pid_refl o.exporter)
stands-offered (x ∷ xs) o (inr h) = elim (cases_Bool (nat_eq x.exporter.0 o.exporter.0)) [
  | inl mine ↦ ap (λ b. b || is_offered xs o.exporter) mine
  | inr other ↦ ap (λ b. b || is_offered xs o.exporter) other ∙ stands-offered xs o h
]

-- what is found of the first offer of a participant, and what else
module _ {A : Type 0} (of : Offer → A) (default : A) where
  abbrev found : List Offer → Pid → A
  found offers who = option_map_or of (find (λ (o : Offer). nat_eq o.exporter.0 who.0) offers) default

  abbrev either : Bool → A → A → A
  either true a b = a
  either false a b = b

  found-first : (x : Offer) (xs : List Offer) (who : Pid) (b : Bool) → nat_eq x.exporter.0 who.0 ≡ b → found (x ∷ xs) who ≡ either b (of x) (found xs who)
  found-first x xs who true e = ap (λ b. option_map_or of (cond b (Some x) (find (λ (o : Offer). nat_eq o.exporter.0 who.0) xs)) default) e
  found-first x xs who false e = ap (λ b. option_map_or of (cond b (Some x) (find (λ (o : Offer). nat_eq o.exporter.0 who.0) xs)) default) e

  -- where each participant stands once, what is found is its offer's
  found-stands : (offers : List Offer) (o : Offer) → each_once offers ≡ true → Member o offers → found offers o.exporter ≡ of o
  found-stands [] o once h = elim h [ ]
  found-stands (x ∷ xs) o once (inl e) =
      found-first x xs o.exporter true (ap (λ (z : Offer). nat_eq z.exporter.0 o.exporter.0) (sym e) ∙ pid_refl o.exporter) ∙ ap of (sym e)
  found-stands (x ∷ xs) o once (inr h) =
      let p = and_parts (not (is_offered xs x.exporter)) (each_once xs) once in
      elim (cases_Bool (nat_eq x.exporter.0 o.exporter.0)) [
        | inl mine ↦ absurd (false≢true (sym (not-true (is_offered xs x.exporter) p.0) ∙ ap (is_offered xs) (pid_exact x.exporter o.exporter mine) ∙ stands-offered xs o h))
        | inr other ↦ found-first x xs o.exporter false other ∙ found-stands xs o p.1 h
      ]

pub port-stands : (offers : List Offer) (o : Offer) → each_once offers ≡ true → Member o offers → offered_port offers o.exporter ≡ o.port
port-stands = found-stands (λ (o : Offer). o.port) (record { 0 = 0 })

pub hole-stands : (offers : List Offer) (o : Offer) → each_once offers ≡ true → Member o offers → offered_hole offers o.exporter ≡ o.hole
hole-stands = found-stands (λ (o : Offer). o.hole) false

-- an offer of a participant
pub record Offered (offers : List Offer) (who : Pid) : Type 0 where
  pub offer : Offer
  pub stands : Member offer offers
  pub mine : offer.exporter ≡ who

pub offered-from : (offers : List Offer) (who : Pid) → is_offered offers who ≡ true → Offered offers who
offered-from [] who e = absurd (false≢true e)
offered-from (x ∷ xs) who e = elim (cases_Bool (nat_eq x.exporter.0 who.0)) [
  | inl mine ↦ record { offer = x; stands = inl refl; mine = pid_exact x.exporter who mine }
  | inr other ↦ let r = offered-from xs who (sym (ap (λ b. b || is_offered xs who) other) ∙ e) in record { offer = r.offer; stands = inr r.stands; mine = r.mine }
]
