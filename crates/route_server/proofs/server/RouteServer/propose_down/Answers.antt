use Rattle.std.proofs.Common.{sym, subst, ◌∙◌, refl}
use Rattle.net_types.specs.Changes.{without_routes}
use Rattle.net_types.specs.Sets.{Member, IsRising}
use Rattle.net_types.specs.UpdateSpelling.{is_before}
use Rattle.route_server.specs.Effects.{routing_after}
use Rattle.route_server.specs.Proposed.{IsProposal}
use Rattle.route_server.specs.Served.{routing}
use Rattle.route_server.proofs.DownLaws.{without_owned, without_rows, without_elsewhere, without_declared}
use Rattle.route_server.proofs.ProposalLaws.{same_routes}
use Rattle.route_server.proofs.server.RouteServer.propose_down.Goals as goal

pub returns-clause-proposal : goal.returns-clause-proposal
returns-clause-proposal c =
    let m = c.args.self.now.routes in
    let prefixes = c.in_ok-changes.ensures.prefixes ∙ c.as_slice.ensures.value in
    let after = without_routes c.args.from m in
    subst (IsProposal (routing c.args.names.now c.args.self.now) (routing_after c.args.names.now c.args.self.now.rules c.args.self.now.named after)) (sym c.with_list.ensures)
    (c.in_ok-proposal.ensures.effects after (without_declared c.args.from m c.args.names.now c.requires) (without_rows c.args.from m c.in_ok-changes.changes.items c.in_ok-changes.ensures.edits)
    (subst (IsRising is_before) (sym prefixes) c.in_ok-prefixes.ensures.rising)
    (λ q away. without_elsewhere c.args.from m c.in_ok-prefixes.prefixes.items c.in_ok-prefixes.ensures q (λ k. away (subst (Member q.prefix) (sym prefixes) k)))
    (λ q away. same_routes c.args.names.now c.args.self.now (record { routes = after; rules = c.args.self.now.rules; named = c.args.self.now.named; room = 0 }) q refl refl
    (λ f. without_elsewhere c.args.from m c.in_ok-prefixes.prefixes.items c.in_ok-prefixes.ensures (record { from = f; prefix = q }) (λ k. away (subst (Member q) (sym prefixes) k))))
    (without_owned c.args.from m c.args.names.now c.args.self.now.rules c.args.self.now.named))

pub returns-in_err-prefixes-clause-declared : goal.returns-in_err-prefixes-clause-declared
returns-in_err-prefixes-clause-declared c = without_declared c.args.from c.args.self.now.routes c.args.names.now c.requires

pub returns-in_err-changes-clause-declared : goal.returns-in_err-changes-clause-declared
returns-in_err-changes-clause-declared c = without_declared c.args.from c.args.self.now.routes c.args.names.now c.requires

pub returns-in_err-proposal-clause-declared : goal.returns-in_err-proposal-clause-declared
returns-in_err-proposal-clause-declared c = without_declared c.args.from c.args.self.now.routes c.args.names.now c.requires

pub returns-clause-declared : goal.returns-clause-declared
returns-clause-declared c = without_declared c.args.from c.args.self.now.routes c.args.names.now c.requires
