use Rattle.std.proofs.Common.{ap, subst, refl, ◌∙◌}
use Rattle.std.specs.Prelude.{Option, Some, List}
use Rattle.events.specs.After.{with_named}
use Rattle.events.specs.State.{State}
use Rattle.exchange_laws.specs.Editing.{both}
use Rattle.net_types.specs.Exports.{named_by}
use Rattle.net_types.specs.declared.address.Pid.{Pid}
use Rattle.policy_syntax.specs.Views.{policy_of}
use Rattle.route_server.specs.Proposed.{IsProposal}
use Rattle.exchange_core.specs.Building.{IsSending}
use Rattle.exchange_core.specs.View.{state_of}
use Rattle.exchange_core.specs.declared.programs.PolicyChange.TheVariants.{Outbound}
use Rattle.exchange_core.specs.declared.request.Request.{Request}
use Rattle.exchange_core.proofs.PortPairs.{table_tagged}
use Rattle.exchange_core.proofs.Senders.{routes_declared}
use Rattle.exchange_core.proofs.exchange.Core.sending.Goals as goal

pub pairs_from-requires-clause-apart : goal.pairs_from-requires-clause-apart
pairs_from-requires-clause-apart c = c.self.invariant.kept.steady.apart

pub pairs_from-requires-clause-tagged : goal.pairs_from-requires-clause-tagged
pairs_from-requires-clause-tagged c =
    let a = c.self.inside in
    let s : State = state_of a.phase a.base a.size a.registry a.server a.resolved.items a.classes a.adverts.told a.switch a.programs.items in
    table_tagged s c.self.invariant.kept.steady

pub propose_named-requires : goal.propose_named-requires
propose_named-requires c =
    let a = c.self.inside in
    let s : State = state_of a.phase a.base a.size a.registry a.server a.resolved.items a.classes a.adverts.told a.switch a.programs.items in
    routes_declared a.registry s.routing refl c.self.invariant.kept.steady.routed

pub returns : goal.returns
returns c =
    let a = c.self.inside in
    let s : State = state_of a.phase a.base a.size a.registry a.server a.resolved.items a.classes a.adverts.told a.switch a.programs.items in
    let q : Request = record { proposal = c.in_ok-proposal.proposal; rebuild = c.in_ok-rebuild.rebuild; change = Outbound c.args.who c.in_ok-program.program } in
    subst (λ (x : State). IsSending x c.args.who c.args.text.now (policy_of c.args.tree.now) q) c.self.view_is (record {
      program = c.in_ok-program.program;
      change = refl;
      read = c.in_ok-program.ensures.text;
      compiled = c.in_ok-program.ensures.compiled;
      named = c.in_ok-proposal.ensures.named ∙ ap (λ (pids : List Pid). let o : Option (Pid × List Pid) = Some (c.args.who, pids) in o) c.in_ok-named.ensures;
      proposes = subst (λ (pids : List Pid). IsProposal (with_named s.routing c.args.who (both (named_by s.routing c.args.who) pids)) (with_named s.routing c.args.who pids) c.in_ok-proposal.proposal) c.in_ok-named.ensures c.in_ok-proposal.ensures.proposal;
      rebuilt = c.in_ok-rebuild.ensures;
    })
