use Rattle.std.proofs.Common.{◌≡◌, sym, subst, ◌∙◌}
use Rattle.events.specs.Fits.{IsStep, bare}
use Rattle.events.specs.State.{State}
use Rattle.events.specs.declared.Head.TheVariants.{Fine}
use Rattle.events.specs.declared.Reply.{Reply}
use Rattle.exchange_core.specs.Taking.{line_of}
use Rattle.exchange_core.proofs.ToldStates.{place, take_step, taking_reply}
use Rattle.exchange_core.proofs.exchange.Core.take.Goals as goal

pub taking-requires : goal.taking-requires
taking-requires c = place c.args.self.now c.args.who c.requires.name c.is_steady.ensures c.requires.sender

pub returns-clause-step : goal.returns-clause-step
returns-clause-step c = λ name sender.
    let s : State = c.args.self.now in
    let who = c.args.who in
    let taking = c.in_ok-taking.ensures in
    let says : c.tell.result ≡ taking_reply s who c.args.limit = c.tell.ensures.reply ∙ (λ i. record (bare Fine) { drops = taking.drops i; adverts = taking.adverts i }) in
    subst (λ (r : Reply). IsStep s (line_of name c.args.limit) r c.tell.new.self) (sym says)
    (subst (λ (x : State). IsStep s (line_of name c.args.limit) (taking_reply s who c.args.limit) x) (sym c.tell.ensures.state) (take_step s who c.is_steady.ensures name c.args.limit sender))
