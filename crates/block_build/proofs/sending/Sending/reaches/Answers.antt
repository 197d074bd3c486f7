-- One more rule doesn't send to the participant.
use Rattle.std.proofs.Common.{◌≡◌, false, length, refl, sym, ap, ◌∙◌}
use Rattle.std.proofs.lemmas.Option.{slice_get_read}
use Rattle.classifier.specs.declared.line.Line.{Line}
use Rattle.block_build.proofs.ClosedLemmas.{each_more}
use Rattle.block_build.specs.Offers.{goes_to, has_one_left}
use Rattle.block_build.proofs.sending.Sending.reaches.Goals as goal

pub loop-i-preserved : goal.loop-i-preserved
loop-i-preserved c =
    let sending = c.args.self.now in
    let rules = sending.rules.now in
    let x = c.index-self-i.result in
    let left = c.is_left.ensures x (slice_get_read rules (length rules) c.loop-i.i x refl c.loop-i-test.true c.index-self-i.is) in
    each_more (λ (y : Line). goes_to (has_one_left sending.offers.now y.results) sending.best y.results c.args.who ≡ false) rules c.loop-i.i x c.loop-i-test.true c.index-self-i.is c.loop-i.invariant
    (ap (λ b. goes_to b sending.best x.results c.args.who) (sym left) ∙ ap (λ (y : Line). goes_to c.is_left.result sending.best y.results c.args.who) c.index-self-i.is ∙ ap (λ items. goes_to c.is_left.result sending.best items c.args.who) (sym c.items-items.ensures) ∙ sym c.goes_to.ensures ∙ c.if-goes_to.false)
