use Rattle.std.proofs.Common.{ap, subst, refl}
use Rattle.events.specs.State.{State}
use Rattle.route_server.specs.Proposed.{Proposed}
use Rattle.exchange_core.specs.Building.{IsReceiving}
use Rattle.exchange_core.specs.View.{state_of}
use Rattle.exchange_core.specs.declared.programs.PolicyChange.TheVariants.{Inbound}
use Rattle.exchange_core.specs.declared.request.Request.{Request}
use Rattle.exchange_core.proofs.Requests.{nothing_proposed}
use Rattle.exchange_core.proofs.exchange.Core.receiving.Goals as goal

pub returns : goal.returns
returns c =
    let a = c.self.inside in
    let s : State = state_of a.phase a.base a.size a.registry a.server a.resolved.items a.classes a.adverts.told a.switch a.programs.items in
    let q : Request = record { proposal = c.empty.result; rebuild = c.in_ok-rebuild.rebuild; change = Inbound c.args.who c.in_ok-program.program } in
    subst (λ (x : State). IsReceiving x c.args.who c.args.text.now q) c.self.view_is (record {
      program = c.in_ok-program.program;
      change = refl;
      read = c.in_ok-program.ensures.text;
      compiled = c.in_ok-program.ensures.compiled;
      named = ap (λ (x : Proposed). x.named) c.empty.ensures;
      proposes = nothing_proposed s.routing c.empty.result c.empty.ensures;
      rebuilt = c.in_ok-rebuild.ensures;
    })
