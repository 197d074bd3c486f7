use Rattle.std.proofs.Common.{subst}
use Rattle.events.specs.Fits.{none_rebuilt}
use Rattle.events.specs.State.{State}
use Rattle.events.specs.declared.Event.{Event}
use Rattle.net_types.specs.Exports.{Routing}
use Rattle.exchange_core.specs.Building.{Leads}
use Rattle.exchange_core.specs.Changing.{Reroutes}
use Rattle.exchange_core.specs.View.{state_of}
use Rattle.exchange_core.proofs.Requests.{rerouting_leads}
use Rattle.exchange_core.proofs.exchange.Core.rerouted.Goals as goal

pub returns : goal.returns
returns c =
    let a = c.self.inside in
    let s : State = state_of a.phase a.base a.size a.registry a.server a.resolved.items a.classes a.adverts.told a.switch a.programs.items in
    subst (λ (x : State). (e : Event) (r : Routing) → Reroutes x e r c.args.proposal → Leads x e r none_rebuilt c.rerouting.result) c.self.view_is
    (λ e r reroutes. rerouting_leads c.steady_states_are_bases.ensures c.reroutings_are_edits.ensures s e r c.args.proposal c.rerouting.result c.self.invariant.kept.steady reroutes
    c.rerouting.ensures.proposal c.rerouting.ensures.rebuild c.rerouting.ensures.change)
