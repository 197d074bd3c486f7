-- A view with one more receiver, and the view of a part.
use Rattle.std.proofs.Common.{◌≡◌, ◌≤◌, ℕ, take, length, true, ◌&&◌, cond, List, [], ◌∷◌, ◌++◌, map, refl, sym, ap, ◌∙◌, subst, inl, inr}
use Rattle.std.specs.Prelude.{Some, is_some, nat_eq}
use Rattle.std.specs.List.{list_all}
use Rattle.std.specs.Option.{option_map_or}
use Rattle.std.proofs.lemmas.Bool.{cases_Bool, false≢true}
use Rattle.std.proofs.lemmas.List.{take_all}
use Rattle.classifier.specs.Classifiers.{lines_of}
use Rattle.classifier.specs.Meaning.{ends_with_everything}
use Rattle.classifier.specs.declared.line.Line.{Line}
use Rattle.net_types.proofs.SetLemmas
use Rattle.net_types.specs.Sets.{Member}
use Rattle.net_types.specs.declared.address.Pid.{Pid}
use Rattle.net_types.specs.declared.route.Offer.{Offer}
use Rattle.block_build.proofs.OfferLemmas.{pid_exact, pid_refl}
use Rattle.block_build.specs.Views.{IsTotal, Viewed, entry, entry_of, has_all, inbound_of, rules_in}
use Rattle.block_build.specs.declared.view.Inbound.{Inbound}

pub total_push : (outbound : List Line) (old new : List Inbound) (i : Inbound) → new ≡ old ++ i ∷ [] → IsTotal (record { outbound = outbound; inbound = map entry old }) → ends_with_everything (lines_of i.classifier.now) ≡ true
    → IsTotal (record { outbound = outbound; inbound = map entry new })
total_push outbound old new i e t last = record {
  outbound = t.outbound;
  inbound = λ x k. elim (SetLemmas.Member-append_cases (map entry old) (map entry (i ∷ [])) x (subst (Member x) (ap (map entry) e ∙ SetLemmas.map-append entry old (i ∷ [])) k)) [
    | inl m ↦ t.inbound x m
    | inr m ↦ elim m [ inl same ↦ ap (λ (y : Pid × List Line). ends_with_everything y.1) same ∙ last | inr none ↦ elim none [ ] ]
  ];
}

-- ---- the view of a part

-- the entries that a part's offers give, each with the rules of its participant
module _ (rules : Pid → List Line) where
  abbrev offered : List Offer → List (Pid × List Line)
  offered offers = map (λ (o : Offer). (o.exporter, rules o.exporter)) offers

  entry_offered : (offers : List Offer) (o : Offer) → Member o offers → entry_of (offered offers) o.exporter ≡ Some (o.exporter, rules o.exporter)
  entry_offered [] o h = elim h [ ]
  entry_offered (x ∷ xs) o h = elim (cases_Bool (nat_eq x.exporter.0 o.exporter.0)) [
    | inl mine ↦
        ap (λ b. cond b (Some (x.exporter, rules x.exporter)) (entry_of (offered xs) o.exporter)) mine
        ∙ ap (λ (who : Pid). Some (who, rules who)) (pid_exact x.exporter o.exporter mine)
    | inr other ↦
        ap (λ b. cond b (Some (x.exporter, rules x.exporter)) (entry_of (offered xs) o.exporter)) other
        ∙ elim h [
          | inl same ↦ absurd (false≢true (sym other ∙ ap (λ (z : Offer). nat_eq z.exporter.0 o.exporter.0) (sym same) ∙ pid_refl o.exporter))
          | inr later ↦ entry_offered xs o later
        ]
  ]

  pub rules_offered : (offers : List Offer) (o : Offer) → Member o offers → rules_in (offered offers) o.exporter ≡ rules o.exporter
  rules_offered offers o h = ap (λ e. option_map_or (λ (e : Pid × List Line). e.1) e []) (entry_offered offers o h)

  pub all_offered : (entries : List (Pid × List Line)) (all : List Offer) → entries ≡ offered all → (offers : List Offer) → ((o : Offer) → Member o offers → Member o all) → list_all (λ (o : Offer). is_some (entry_of entries o.exporter)) offers ≡ true
  all_offered entries all e [] h = refl
  all_offered entries all e (x ∷ xs) h =
      ap (λ b. b && list_all (λ (o : Offer). is_some (entry_of entries o.exporter)) xs) (ap (λ es. is_some (entry_of es x.exporter)) e ∙ ap is_some (entry_offered all x (h x (inl refl))))
      ∙ all_offered entries all e xs (λ o k. h o (inr k))

  -- a view that has the entries of all the offers
  module _ (v : Viewed) (offers : List Offer) (n : ℕ) (all : length offers ≤ n) (e : v.inbound ≡ offered (take n offers)) where
    whole : v.inbound ≡ offered offers
    whole = e ∙ ap offered (take_all n offers all)

    pub view_has_all : has_all v offers ≡ true
    view_has_all = all_offered v.inbound offers whole offers (λ o h. h)

    pub view_receives : (o : Offer) → Member o offers → inbound_of v o.exporter ≡ rules o.exporter
    view_receives o h = ap (λ es. rules_in es o.exporter) whole ∙ rules_offered offers o h
