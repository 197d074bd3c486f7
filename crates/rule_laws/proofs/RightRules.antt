-- There are right rules, at least one, and no more than the cells.
use Rattle.std.proofs.Common.{◌≡◌, ◌≤◌, suc, true, not, ◌||◌, None, Some, List, [], ◌∷◌, length, map, refl, inl, inr, sym, ap, ◌∙◌, subst, arith}
use Rattle.std.specs.Prelude.{nat_eq}
use Rattle.std.proofs.lemmas.Bool.{and_from, cases_Bool, eqb-true, false_from_ne_true}
use Rattle.block_build.proofs.RightBlocks.{within_cells}
use Rattle.events.specs.Sound.{cubes_of}
use Rattle.events.specs.Table.{first_rule}
use Rattle.net_types.specs.Answers.{is_offered}
use Rattle.net_types.specs.Cells.{cell_atoms}
use Rattle.net_types.specs.Headers.{IsValid}
use Rattle.net_types.specs.Meets.{meets}
use Rattle.net_types.specs.Sets.{Member}
use Rattle.net_types.specs.declared.address.PortNo.{PortNo}
use Rattle.net_types.specs.declared.headers.Headers.{Headers}
use Rattle.net_types.specs.declared.route.Offer.{Offer}
use Rattle.net_types.specs.declared.rule.Rule.{Rule}
use Rattle.rule_laws.proofs.FirstOffers.{first_part, firsts_right, offered-firsts, once-firsts}
use Rattle.rule_laws.proofs.PolicyViews.{some_right}
use Rattle.rule_laws.specs.Rules.{OffersDiffer, RightRulesAreFew, RightRulesAreSome, RightRulesExist}

pub right_rules_exist : RightRulesExist
right_rules_exist ps part port there =
    let r = some_right ps (first_part part) port (offered-firsts part.offers part.best ∙ there) (once-firsts part.offers) in
    (r.0, firsts_right ps part port r.0 r.1)

length-cubes : (rules : List Rule) → length (cubes_of rules) ≡ length rules
length-cubes [] = refl
length-cubes (x ∷ xs) = ap suc (length-cubes xs)

pub right_rules_are_few : RightRulesAreFew
right_rules_are_few ps part port rules right =
    subst (λ n. n ≤ length (meets (cell_atoms ps port part))) (length-cubes rules) (within_cells (cell_atoms ps port part) (cubes_of rules) right.differ right.meets)

-- some headers that come in by a port
abbrev coming : PortNo → Headers
coming port = record { inport = port; src = record { 0 = 0 }; dst = record { 0 = 0 }; proto = 0; sport = None; dport = None }

pub right_rules_are_some : RightRulesAreSome
right_rules_are_some ps part port rules small right none =
    let valid : IsValid (coming port) = record { inport = small; src = omega arith; dst = omega arith; proto = omega arith; sport = tt; dport = tt } in
    let g = right.gives (coming port) valid refl in
    let first : first_rule [] (coming port) ≡ Some g.0 = ap (λ rs. first_rule rs (coming port)) (sym none) ∙ g.1 in
    absurd (cc)

-- an exporter among the others
offered_again : (os : List Offer) (o : Offer) → is_offered os o.exporter ≡ true → Member o.exporter.0 (map (λ (x : Offer). x.exporter.0) os)
offered_again [] o e = absurd (cc)
offered_again (x ∷ xs) o e = elim (cases_Bool (nat_eq x.exporter.0 o.exporter.0)) [
  | inl mine ↦ inl (sym (eqb-true x.exporter.0 o.exporter.0 mine))
  | inr other ↦ inr (offered_again xs o (sym (ap (λ b. b || is_offered xs o.exporter) other) ∙ e))
]

pub offers_differ : OffersDiffer
offers_differ [] d = refl
offers_differ (o ∷ os) d =
    and_from _ _ (ap not (false_from_ne_true (is_offered os o.exporter) (λ e. d.0 (offered_again os o e)))) (offers_differ os d.1)
