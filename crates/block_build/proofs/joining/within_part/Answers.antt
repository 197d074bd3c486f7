-- What is built for the receivers that are reached is built for all.
use Rattle.std.proofs.Common.{◌≡◌, List, ◌∙◌, subst}
use Rattle.classifier.specs.declared.line.Line.{Line}
use Rattle.net_types.specs.declared.route.Offer.{Offer}
use Rattle.block_build.proofs.ByCellLemmas.{built-all}
use Rattle.block_build.specs.Bounds.{IsBuilt}
use Rattle.block_build.specs.Receivers.{receivers}
use Rattle.block_build.specs.Views.{inbound_of}
use Rattle.block_build.specs.declared.receive.Receiver.{Receiver}
use Rattle.block_build.proofs.joining.within_part.Goals as goal

pub returns : goal.returns
returns c =
    let sending = c.in_ok-sending.sending in
    let made = c.in_ok-sending.ensures in
    let part = c.args.part.now in
    let offers : sending.offers.now ≡ part.offers = made.offers ∙ c.items.ensures in
    let all = λ (os : List Offer). receivers (inbound_of c.args.view.now) os in
    let built = built-all sending.best sending.offers.now sending.rules.now (all sending.offers.now) c.in_ok-receivers.receivers.items c.in_ok-receivers.ensures c.args.limit c.in_ok-lines.lines.items
    (subst (λ (rs : List Receiver). IsBuilt c.args.limit sending.best sending.offers.now rs sending.rules.now c.in_ok-lines.lines.items) c.deref.ensures.value c.in_ok-lines.ensures) in
    subst (λ best. IsBuilt c.args.limit best part.offers (all part.offers) c.args.rules.now c.in_ok-lines.lines.items) made.best
    (subst (λ (os : List Offer). IsBuilt c.args.limit sending.best os (all os) c.args.rules.now c.in_ok-lines.lines.items) offers
    (subst (λ (xs : List Line). IsBuilt c.args.limit sending.best sending.offers.now (all sending.offers.now) xs c.in_ok-lines.lines.items) made.rules built))
