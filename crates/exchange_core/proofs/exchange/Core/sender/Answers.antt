use Rattle.std.proofs.Common.{◌<◌, length, sym, subst, ◌∙◌}
use Rattle.events.proofs.Reached.{declared_pid}
use Rattle.events.specs.State.{State}
use Rattle.exchange_core.specs.View.{state_of}
use Rattle.exchange_core.proofs.exchange.Core.sender.Goals as goal

pub returns-in-Some-clause-declared : goal.returns-in-Some-clause-declared
returns-in-Some-clause-declared c =
    let a = c.self.inside in
    let s : State = state_of a.phase a.base a.size a.registry a.server a.resolved.items a.classes a.adverts.told a.switch a.programs.items in
    subst (λ (x : State). c.in-Some.who.0 < length x.routing.participants) c.self.view_is
    (declared_pid s.routing c.args.name.now c.in-Some.who (sym (rw c.items.ensures at c.find_octets.ensures) ∙ c.in-Some.is))
