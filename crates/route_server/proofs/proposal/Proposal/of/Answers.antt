use Rattle.std.proofs.Common.{◌≡◌, sym, subst, refl}
use Rattle.std.specs.Prelude.{None}
use Rattle.std.specs.Option.{option_map, option_map_or}
use Rattle.net_types.specs.Exports.{Routing}
use Rattle.route_server.specs.Effects.{AreRowsOf, routing_after, routing_by}
use Rattle.route_server.specs.Proposed.{IsProposal}
use Rattle.route_server.specs.Served.{AreDeclared, Served, routing}
use Rattle.route_server.proofs.EffectLaws.{effects_between, proposal_is}
use Rattle.route_server.proofs.ProposalLaws.{rules_are}
use Rattle.route_server.proofs.proposal.Proposal.of.Goals as goal

pub returns-clause-effects : goal.returns-clause-effects
returns-clause-effects c = λ m declared rows rising kept elsewhere owned.
    let names = c.args.names.now in
    let before = c.args.server.now in
    let after = option_map_or (λ r. r.items) c.args.rules before.rules in
    let v : Served = record { routes = before.routes; rules = before.rules; named = before.named; room = 0 } in
    let u : Served = record { routes = m; rules = after; named = before.named; room = 0 } in
    let same : names ≡ c.terms-before.result.names.now = sym c.terms-before.ensures.names in
    let at = c.as_slice.ensures.value in
    let r : Routing = routing_by c.terms-before.result before.routes in
    let was : r ≡ routing names v = λ i. routing_after (c.terms-before.ensures.names i) (c.terms-before.ensures.rules i) (c.terms-before.ensures.named i) before.routes in
    let then : routing_after c.terms-before.result.names.now c.rules_after.result.now c.terms-before.result.named.now m ≡ routing names u = λ i. routing_after (c.terms-before.ensures.names i) (c.rules_after.ensures i) (c.terms-before.ensures.named i) m in
    let found = c.in_ok-effects.ensures m (subst (λ n. AreDeclared n m) same declared) (subst (λ cs. AreRowsOf cs m) (sym at) rows) in
    subst (IsProposal (routing names v) (routing names u)) (sym c.in_ok-proposal.ensures)
    (proposal_is names v u (option_map (λ r. r.items) c.args.rules) None c.args.changes.items c.in_ok-effects.effects.items
    (sym (rules_are (λ r. r.items) c.args.rules (option_map (λ r. r.items) c.args.rules) before.rules refl)) refl rows
    (effects_between r (routing names v) _ (routing names u) c.as_slice.result.now c.args.changes.items c.in_ok-effects.effects.items was then at found) rising kept elsewhere owned)
