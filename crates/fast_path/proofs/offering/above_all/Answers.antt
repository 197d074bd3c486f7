use Rattle.std.proofs.Common.{◌<◌, ◌≤◌, ◌+◌, subst, sym, ◌∙◌, arith}
use Rattle.std.specs.Prelude.{IfSome}
use Rattle.events.specs.declared.Entry.{Entry}
use Rattle.fast_path.proofs.Loops.{greater_one}
use Rattle.fast_path.proofs.OffersCounted.{below_next}
use Rattle.fast_path.proofs.offering.above_all.Goals as goal
use Rattle.fast_path.proofs.offering.above_all.Goals.{in-Some, in_default}

pub loop-offer-preserved : goal.loop-offer-preserved
loop-offer-preserved c =
    let at = c.loop-offer.offer-index in
    let x = c.offer-item.result in
    elim c.match-offer.branch [
      | in-Some w ↦
          let most : (c.loop-offer.most ≤ c.match-offer.most) × (w.in-Some.entry.tag.0 + 1 ≤ c.match-offer.most) =
          subst (λ n. (c.loop-offer.most ≤ n) × (w.in-Some.entry.tag.0 + 1 ≤ n)) (sym (w.most-is ∙ w.max-most.ensures)) (greater_one c.loop-offer.most (w.in-Some.entry.tag.0 + 1)) in
          below_next c.args.offers.now at x c.loop-offer.most c.match-offer.most c.loop-offer-test.true c.offer-item.is c.loop-offer.invariant
          (omega (arith, most.0)) (subst (λ o. IfSome o (λ (e : Entry). e.tag.0 < c.match-offer.most)) (sym w.in-Some.is) (omega (arith, most.1)))
      | in_default w ↦ below_next c.args.offers.now at x c.loop-offer.most c.match-offer.most c.loop-offer-test.true c.offer-item.is c.loop-offer.invariant
          (omega (arith, w.most-is)) (subst (λ o. IfSome o (λ (e : Entry). e.tag.0 < c.match-offer.most)) (sym w.in_default.is) tt)
    ]
