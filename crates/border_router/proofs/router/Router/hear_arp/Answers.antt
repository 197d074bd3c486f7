-- What is read from the frame is the answer.
use Rattle.std.proofs.Common.{sym, ap, ◌∙◌}
use Rattle.net_types.specs.Octets.{same_octets}
use Rattle.border_router.specs.Hearing.{with_answer}
use Rattle.border_router.specs.Known.{Known}
use Rattle.border_router.proofs.ReplyLemmas.{heard_own, heard_other}
use Rattle.border_router.proofs.router.Router.hear_arp.Goals as goal

pub returns-then-eq-clause-known : goal.returns-then-eq-clause-known
returns-then-eq-clause-known c = λ a reply.
    let k : Known = record { mac = c.self.inside.mac; ip = c.self.inside.ip; next_hops = c.self.inside.next_hops.map; resolved = c.self.inside.resolved.map } in
    let own = ap (λ xs. same_octets xs c.self.inside.mac.0) (sym c.mac.ensures) ∙ sym c.eq.ensures ∙ c.if-eq.true in
    (λ i. record k { resolved = c.put.ensures.map i })
    ∙ heard_own c.args.frame.now k a reply own c.address.result c.mac-then-eq.result c.address.ensures c.mac-then-eq.ensures
    ∙ ap (λ s. with_answer a s.known) c.self.view_is

pub returns-else-eq-clause-known : goal.returns-else-eq-clause-known
returns-else-eq-clause-known c = λ a reply.
    let other = ap (λ xs. same_octets xs c.args.self.now.known.mac.0) (sym c.mac.ensures) ∙ ap (λ s. same_octets c.mac.result.0 s.known.mac.0) (sym c.self.view_is) ∙ sym c.eq.ensures ∙ c.if-eq.false in
    heard_other c.args.frame.now c.args.self.now.known a reply other
