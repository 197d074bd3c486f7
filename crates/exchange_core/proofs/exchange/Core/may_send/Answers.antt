use Rattle.std.proofs.Common.{◌≡◌, sym, subst, ◌∙◌}
use Rattle.std.specs.Prelude.{MatchResult, None}
use Rattle.events.specs.Refusals.{policy_refusal}
use Rattle.events.specs.State.{State, owner_of}
use Rattle.net_types.specs.Exports.{pid_of}
use Rattle.net_types.specs.Isolation.{out_faults}
use Rattle.policy_syntax.specs.Views.{policy_of}
use Rattle.exchange_core.specs.Stops.{IsFirst, isolate_stop}
use Rattle.exchange_core.specs.View.{state_of}
use Rattle.exchange_core.proofs.Requests.{fault_stops, width_passes}
use Rattle.exchange_core.proofs.Stops.{returned}
use Rattle.exchange_core.proofs.exchange.Core.may_send.Goals as goal

pub returns-in_err-check_out : goal.returns-in_err-check_out
returns-in_err-check_out c =
    let a = c.self.inside in
    let s : State = state_of a.phase a.base a.size a.registry a.server a.resolved.items a.classes a.adverts.told a.switch a.programs.items in
    let st : State = c.args.self.now in
    let p = policy_of c.args.tree.now in
    let fault = c.in_err-check_out.field-0.0 in
    returned (λ r. let first = policy_refusal (out_faults (pid_of st.routing) (owner_of st) c.args.who p) p in MatchResult r (λ _. first ≡ None) (IsFirst first)) c.from_residual.result (isolate_stop fault) c.from_residual.ensures.1
    (subst (λ (x : State). IsFirst (policy_refusal (out_faults (pid_of x.routing) (owner_of x) c.args.who p) p) (isolate_stop fault)) c.self.view_is
    (fault_stops (out_faults (pid_of s.routing) (owner_of s) c.args.who p) p fault (sym c.check_out.ensures.told ∙ c.in_err-check_out.was)))

pub returns : goal.returns
returns c =
    let a = c.self.inside in
    let s : State = state_of a.phase a.base a.size a.registry a.server a.resolved.items a.classes a.adverts.told a.switch a.programs.items in
    let p = policy_of c.args.tree.now in
    subst (λ (x : State). let first = policy_refusal (out_faults (pid_of x.routing) (owner_of x) c.args.who p) p in MatchResult c.narrow.result (λ _. first ≡ None) (IsFirst first)) c.self.view_is
    (width_passes (out_faults (pid_of s.routing) (owner_of s) c.args.who p) p (sym c.check_out.ensures.told ∙ c.in_ok-check_out.was) c.narrow.result c.narrow.ensures)
