use Rattle.std.proofs.Common.{◌≡◌, sym, ap, subst, ◌∙◌, refl, cond, eqb, ℕ, Some}
use Rattle.net_types.specs.Sets.{Member, IsRising}
use Rattle.net_types.specs.UpdateSpelling.{is_before}
use Rattle.route_server.specs.Effects.{routing_after}
use Rattle.route_server.specs.Proposed.{IsProposal}
use Rattle.route_server.specs.Rows.{rules_at, rules_with}
use Rattle.route_server.specs.Served.{routing}
use Rattle.route_server.proofs.ExportLaws.{kept_rows, other_rules, padded_rules, listed_rules}
use Rattle.route_server.proofs.server.RouteServer.propose_rules.Goals as goal

pub returns-clause-rules : goal.returns-clause-rules
returns-clause-rules c = ap (λ p. p.rules) c.with_list.ensures ∙ c.in_ok-proposal.ensures.rules ∙ ap Some (c.in_ok-after.ensures ∙ (λ i. rules_with (c.rules-before.ensures i) c.args.from (c.into_rules.ensures i)))

pub returns-clause-listed : goal.returns-clause-listed
returns-clause-listed c = listed_rules c.args.self.now.rules c.args.from c.args.rules

pub returns-clause-proposal : goal.returns-clause-proposal
returns-clause-proposal c =
    let m = c.args.self.now.routes in
    let prefixes = c.in_ok-changes.ensures.prefixes ∙ c.as_slice.ensures.value in
    let is : c.in_ok-after.after.items ≡ rules_with c.args.self.now.rules c.args.from c.args.rules = c.in_ok-after.ensures ∙ (λ i. rules_with (c.rules-before.ensures i) c.args.from (c.into_rules.ensures i)) in
    let now : (n : ℕ) → rules_at c.in_ok-after.after.items n ≡ cond (eqb c.args.from.0 n) c.args.rules (rules_at c.args.self.now.rules n) = λ n. ap (λ rs. rules_at rs n) is ∙ padded_rules c.args.self.now.rules c.args.from c.args.rules n in
    subst (IsProposal (routing c.args.names.now c.args.self.now) (routing_after c.args.names.now (rules_with c.args.self.now.rules c.args.from c.args.rules) c.args.self.now.named m)) (sym c.with_list.ensures)
    (subst (λ rs. IsProposal (routing c.args.names.now c.args.self.now) (routing_after c.args.names.now rs c.args.self.now.named m) c.in_ok-proposal.proposal) is
    (c.in_ok-proposal.ensures.effects m c.requires (kept_rows m c.in_ok-changes.changes.items c.in_ok-changes.ensures.rows) (subst (IsRising is_before) (sym prefixes) c.in_ok-prefixes.ensures.rising)
    (λ q away. refl)
    (λ q away. other_rules c.args.names.now c.args.self.now c.in_ok-after.after.items c.args.from c.args.rules now c.in_ok-prefixes.prefixes.items c.in_ok-prefixes.ensures q (λ k. away (subst (Member q) (sym prefixes) k)))
    (λ are. record { owned = are.owned })))
