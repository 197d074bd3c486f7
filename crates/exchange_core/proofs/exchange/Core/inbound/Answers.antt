use Rattle.std.proofs.Common.{subst}
use Rattle.std.specs.Prelude.{List, ℕ}
use Rattle.events.specs.Fits.{is_receivers}
use Rattle.events.specs.State.{State}
use Rattle.events.specs.declared.Event.TheVariants.{Inbound}
use Rattle.exchange_laws.specs.Steady.{IsSteady}
use Rattle.policy_syntax.specs.Views.{policy_of}
use Rattle.exchange_core.specs.Building.{Asks}
use Rattle.exchange_core.specs.Changing.{IsSender}
use Rattle.exchange_core.proofs.Requests.{in_faulty, in_unread, receiving_leads}
use Rattle.exchange_core.proofs.Stops.{returned}
use Rattle.exchange_core.proofs.exchange.Core.inbound.Goals as goal

pub returns-in_err-tree : goal.returns-in_err-tree
returns-in_err-tree c =
    let st : State = c.args.self.now in
    let stop = c.in_err-tree.field-0.0 in
    returned (λ r. (name : List ℕ) → IsSender st name c.args.who → Asks st (Inbound name c.args.text.now) r) c.from_residual.result stop c.from_residual.ensures.1
    (λ name sender. in_unread st name c.args.text.now c.args.who sender stop c.in_err-tree.ensures)

pub returns-in_err-may_receive : goal.returns-in_err-may_receive
returns-in_err-may_receive c =
    let st : State = c.args.self.now in
    let stop = c.in_err-may_receive.field-0.0 in
    returned (λ r. (name : List ℕ) → IsSender st name c.args.who → Asks st (Inbound name c.args.text.now) r) c.from_residual-in_err-may_receive.result stop c.from_residual-in_err-may_receive.ensures.1
    (λ name sender. in_faulty st name c.args.text.now c.args.who sender (policy_of c.in_ok-tree.tree) stop c.in_ok-tree.ensures c.in_err-may_receive.ensures)

pub returns : goal.returns
returns c = λ name sender.
    let st : State = c.args.self.now in
    let who = c.args.who in
    let p = policy_of c.in_ok-tree.tree in
    let steady : IsSteady st = subst IsSteady c.self.view_is c.self.invariant.kept.steady in (
      st.routing,
      is_receivers st who,
      receiving_leads st name c.args.text.now who sender c.inbounds_are_edits.ensures.bases c.inbounds_are_edits.ensures.edits c.edits_are_changes.ensures.inbounds steady p c.in_ok-tree.ensures c.in_ok-may_receive.ensures c.in_ok-request.request c.in_ok-request.ensures,
    )
