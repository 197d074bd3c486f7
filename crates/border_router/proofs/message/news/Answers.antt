-- What is decoded is the update whose message this is, but for numbers that don't fit and say nothing new.
use Rattle.std.proofs.Common.{◌≡◌, ℕ, ◌<◌, get_or, sym, ap, ◌∙◌, rules}
use Rattle.bgp_update.specs.declared.fault.UpdateFault.{UpdateFault}
use Rattle.bgp_update.specs.declared.fault.UpdateFault.TheVariants.{Bad, Memory}
use Rattle.net_types.specs.declared.update.Fault.{Fault}
use Rattle.border_router.specs.Hearing.{news_of}
use Rattle.border_router.specs.declared.heard.News.{News}
use Rattle.border_router.proofs.FitLemmas.{fit, nothing_announced, same_news, spelt}
use Rattle.border_router.proofs.message.news.Goals as goal

no_fault : (e : UpdateFault) (f : Fault) → e ≡ Bad f → e ≡ Memory → ⊥
no_fault e f bad want = cc

pub returns-in-Ok-clause-news : goal.returns-in-Ok-clause-news
returns-in-Ok-clause-news c = λ u m.
    let octets : (i : ℕ) → get_or c.args.message.now i 0 < 256 = λ i. search rules in
    c.of_update.ensures ∙ ap news_of (c.in-Ok.ensures.found (fit u) (spelt c.messages_read_back.ensures c.args.message.now octets u m)) ∙ same_news u

pub returns-in-Ok-clause-next_hop : goal.returns-in-Ok-clause-next_hop
returns-in-Ok-clause-next_hop c = λ e.
    let octets : (i : ℕ) → get_or c.args.message.now i 0 < 256 = λ i. search rules in
    let w = c.requires in
    let is : c.of_update.result ≡ news_of w.update = c.of_update.ensures ∙ ap news_of (c.in-Ok.ensures.found (fit w.update) (spelt c.messages_read_back.ensures c.args.message.now octets w.update w.is)) ∙ same_news w.update in
    ap (λ (n : News). n.announced) is ∙ nothing_announced w.update w.is.sound (ap (λ (n : News). n.next_hop) (sym is) ∙ e)

pub unreachable-requires : goal.unreachable-requires
unreachable-requires c =
    let octets : (i : ℕ) → get_or c.args.message.now i 0 < 256 = λ i. search rules in
    let w = c.requires in
    let read = spelt c.messages_read_back.ensures c.args.message.now octets w.update w.is in
    no_fault c.in-Err-Bad.field-0 c.in-Err-Bad.field-0-0 c.in-Err-Bad.field-0-is (c.in-Err-Bad.ensures.found (fit w.update) read)
