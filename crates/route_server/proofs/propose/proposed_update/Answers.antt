use Rattle.std.proofs.Common.{refl, subst, sym}
use Rattle.net_types.specs.Changes.{updated}
use Rattle.route_server.specs.Effects.{routing_after}
use Rattle.route_server.specs.Proposed.{IsProposal}
use Rattle.route_server.specs.Served.{routing}
use Rattle.route_server.proofs.UpdateLaws.{updated_owned, updated_out, updated_declared}
use Rattle.route_server.proofs.ShortPaths.{taken_short}
use Rattle.route_server.proofs.ProposalLaws.{same_routes}
use Rattle.route_server.proofs.propose.proposed_update.Goals as goal

pub update_changes-requires-clause-short : goal.update_changes-requires-clause-short
update_changes-requires-clause-short c = taken_short c.args.names.now c.args.from c.args.update.now c.requires.sound c.requires.taken

pub returns-clause-proposal : goal.returns-clause-proposal
returns-clause-proposal c =
    let m = updated c.args.from c.args.update.now c.args.server.now.routes in
    subst (IsProposal (routing c.args.names.now c.args.server.now) (routing_after c.args.names.now c.args.server.now.rules c.args.server.now.named m)) (sym c.with_list.ensures)
    (c.in_ok-proposal.ensures.effects m (updated_declared c.args.names.now c.args.from c.args.update.now c.args.server.now.routes c.requires.known c.requires.declared) c.in_ok-changes.ensures.rows c.in_ok-changes.ensures.rising
    (λ q away. updated_out c.args.from q c.args.update.now c.args.server.now.routes (λ k. away (c.in_ok-changes.ensures.all q.prefix k)))
    (λ q away. same_routes c.args.names.now c.args.server.now (record { routes = m; rules = c.args.server.now.rules; named = c.args.server.now.named; room = 0 }) q refl refl
    (λ f. updated_out c.args.from (record { from = f; prefix = q }) c.args.update.now c.args.server.now.routes (λ k. away (c.in_ok-changes.ensures.all q k))))
    (updated_owned c.args.names.now c.args.from c.args.update.now c.args.server.now c.requires.known c.requires.taken))
