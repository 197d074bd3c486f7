use Rattle.std.proofs.Common.{◌≡◌, sym, subst, ◌∙◌}
use Rattle.std.specs.Prelude.{MatchResult, None}
use Rattle.events.specs.Refusals.{policy_refusal}
use Rattle.events.specs.State.{State, owner_of}
use Rattle.net_types.specs.Isolation.{in_faults}
use Rattle.policy_syntax.specs.Views.{policy_of}
use Rattle.exchange_core.specs.Stops.{IsFirst, isolate_stop}
use Rattle.exchange_core.specs.View.{state_of}
use Rattle.exchange_core.proofs.Requests.{fault_stops, width_passes}
use Rattle.exchange_core.proofs.Stops.{returned}
use Rattle.exchange_core.proofs.exchange.Core.may_receive.Goals as goal

pub returns-in_err-check_in : goal.returns-in_err-check_in
returns-in_err-check_in c =
    let a = c.self.inside in
    let s : State = state_of a.phase a.base a.size a.registry a.server a.resolved.items a.classes a.adverts.told a.switch a.programs.items in
    let st : State = c.args.self.now in
    let p = policy_of c.args.tree.now in
    let fault = c.in_err-check_in.field-0.0 in
    returned (λ r. let first = policy_refusal (in_faults (owner_of st) c.args.who p) p in MatchResult r (λ _. first ≡ None) (IsFirst first)) c.from_residual.result (isolate_stop fault) c.from_residual.ensures.1
    (subst (λ (x : State). IsFirst (policy_refusal (in_faults (owner_of x) c.args.who p) p) (isolate_stop fault)) c.self.view_is
    (fault_stops (in_faults (owner_of s) c.args.who p) p fault (sym c.check_in.ensures.told ∙ c.in_err-check_in.was)))

pub returns : goal.returns
returns c =
    let a = c.self.inside in
    let s : State = state_of a.phase a.base a.size a.registry a.server a.resolved.items a.classes a.adverts.told a.switch a.programs.items in
    let p = policy_of c.args.tree.now in
    subst (λ (x : State). let first = policy_refusal (in_faults (owner_of x) c.args.who p) p in MatchResult c.narrow.result (λ _. first ≡ None) (IsFirst first)) c.self.view_is
    (width_passes (in_faults (owner_of s) c.args.who p) p (sym c.check_in.ensures.told ∙ c.in_ok-check_in.was) c.narrow.result c.narrow.ensures)
