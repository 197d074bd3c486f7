use Rattle.std.proofs.Common.{subst}
use Rattle.std.specs.Prelude.{List, ℕ}
use Rattle.events.specs.After.{with_named}
use Rattle.events.specs.Fits.{is_senders}
use Rattle.events.specs.State.{State}
use Rattle.events.specs.declared.Event.TheVariants.{Outbound}
use Rattle.exchange_laws.specs.Steady.{IsSteady}
use Rattle.net_types.specs.Exports.{pid_of}
use Rattle.net_types.specs.Naming.{named_in}
use Rattle.policy_syntax.specs.Views.{policy_of}
use Rattle.exchange_core.specs.Building.{Asks}
use Rattle.exchange_core.specs.Changing.{IsSender}
use Rattle.exchange_core.proofs.Requests.{out_faulty, out_unread, sending_leads}
use Rattle.exchange_core.proofs.Stops.{returned}
use Rattle.exchange_core.proofs.exchange.Core.outbound.Goals as goal

pub returns-in_err-tree : goal.returns-in_err-tree
returns-in_err-tree c =
    let st : State = c.args.self.now in
    let stop = c.in_err-tree.field-0.0 in
    returned (λ r. (name : List ℕ) → IsSender st name c.args.who → Asks st (Outbound name c.args.text.now) r) c.from_residual.result stop c.from_residual.ensures.1
    (λ name sender. out_unread st name c.args.text.now c.args.who sender stop c.in_err-tree.ensures)

pub returns-in_err-may_send : goal.returns-in_err-may_send
returns-in_err-may_send c =
    let st : State = c.args.self.now in
    let stop = c.in_err-may_send.field-0.0 in
    returned (λ r. (name : List ℕ) → IsSender st name c.args.who → Asks st (Outbound name c.args.text.now) r) c.from_residual-in_err-may_send.result stop c.from_residual-in_err-may_send.ensures.1
    (λ name sender. out_faulty st name c.args.text.now c.args.who sender (policy_of c.in_ok-tree.tree) stop c.in_ok-tree.ensures c.in_err-may_send.ensures)

pub returns : goal.returns
returns c = λ name sender.
    let st : State = c.args.self.now in
    let who = c.args.who in
    let p = policy_of c.in_ok-tree.tree in
    let steady : IsSteady st = subst IsSteady c.self.view_is c.self.invariant.kept.steady in (
      with_named st.routing who (named_in (pid_of st.routing) p),
      is_senders st who,
      sending_leads st name c.args.text.now who sender c.outbounds_are_edits.ensures.bases c.outbounds_are_edits.ensures.edits steady p c.in_ok-tree.ensures c.in_ok-may_send.ensures c.in_ok-request.request c.in_ok-request.ensures,
    )
