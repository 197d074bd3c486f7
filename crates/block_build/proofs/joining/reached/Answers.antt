-- One more participant is reached, or nobody sends to it.
use Rattle.std.proofs.Common.{◌≡◌, ◌+◌, ◌++◌, ◌∷◌, [], false, get_or, List, take, sym, ap, ◌∙◌, subst}
use Rattle.std.proofs.lemmas.List.{map-append, take_more}
use Rattle.net_types.specs.declared.route.Offer.{Offer}
use Rattle.block_build.proofs.ByCellLemmas.{reached-less, reached-more}
use Rattle.block_build.specs.Reached.{AreReached}
use Rattle.block_build.specs.Receivers.{receiver, receivers}
use Rattle.block_build.specs.Views.{inbound_of}
use Rattle.block_build.specs.declared.receive.Receiver.{Receiver}
use Rattle.block_build.proofs.joining.reached.Goals as goal
use Rattle.block_build.proofs.joining.reached.Goals.{then-reaches+in_ok-new+in_ok-push, else-reaches}

pub loop-offer-preserved : goal.loop-offer-preserved
loop-offer-preserved c =
    let sending = c.args.sending.now in
    let offers = sending.offers.now in
    let i = c.loop-offer.offer-index in
    let none : Offer = record { exporter = record { 0 = 0 }; port = record { 0 = 0 }; hole = false } in
    let offer = get_or offers i none in
    let inbound = inbound_of c.args.view.now in
    let all = receivers inbound (take i offers) in
    let made = c.loop-offer.all.items in
    let r = receiver inbound offer in
    let more : receivers inbound (take (i + 1) offers) ≡ all ++ r ∷ [] =
    ap (λ (os : List Offer). receivers inbound os) (take_more offers i none c.loop-offer-test.true) ∙ map-append (receiver inbound) (take i offers) (offer ∷ []) in
    elim c.if-reaches.branch [
      | then-reaches+in_ok-new+in_ok-push w ↦ rw w.all-is (subst (λ (rs : List Receiver). AreReached sending.best offers sending.rules.now rs w.push.new.self.items) (sym more)
          (subst (λ (rs : List Receiver). AreReached sending.best offers sending.rules.now (all ++ r ∷ []) rs) (sym (w.in_ok-push.ensures.items ∙ ap (λ q. made ++ q ∷ []) w.in_ok-new.ensures))
          (reached-more sending.best offers sending.rules.now all made c.loop-offer.invariant r)))
      | else-reaches w ↦ rw w.all-is (subst (λ (rs : List Receiver). AreReached sending.best offers sending.rules.now rs made) (sym more)
          (reached-less sending.best offers sending.rules.now all made c.loop-offer.invariant r (c.reaches.ensures w.if-reaches.false)))
    ]
