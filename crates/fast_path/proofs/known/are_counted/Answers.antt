use Rattle.std.proofs.Common.{◌≡◌, ◌<◌, ◌+◌, Bool, true, false, drop, filter, length, sym, ap, ◌∙◌, arith}
use Rattle.std.specs.Cmp.Lexicographic.{pointwise}
use Rattle.net_types.specs.Attributes.{same_offer}
use Rattle.net_types.specs.Signatures.{counts}
use Rattle.net_types.specs.declared.route.Offer.{Offer}
use Rattle.fast_path.proofs.CountedOffers.{next_left, next_passes, stands_within}
use Rattle.fast_path.proofs.known.are_counted.Goals as goal
use Rattle.fast_path.proofs.known.are_counted.Goals.{then-counts+else-not-stands_at, else-counts}

-- what is read where there is no offer
abbrev no_offer : Offer
no_offer = record { exporter = record { 0 = 0 }; port = record { 0 = 0 }; hole = false }

pub returns-then-not-stands_at : goal.returns-then-not-stands_at
returns-then-not-stands_at c =
    let test : Offer → Bool = λ o. counts c.args.pids.now c.args.best o.exporter in
    sym (next_passes same_offer test c.args.kept.now c.args.offers.now c.loop-offer.offer-index c.loop-offer.at no_offer false c.loop-offer-test.true (sym c.counts.ensures ∙ c.if-counts.true) (sym c.stands_at.ensures ∙ c.if-not-stands_at.true))
    ∙ c.loop-offer.invariant.left

pub loop-offer-preserved : goal.loop-offer-preserved
loop-offer-preserved c =
    let test : Offer → Bool = λ o. counts c.args.pids.now c.args.best o.exporter in
    let kept = c.args.kept.now in
    let offers = c.args.offers.now in
    let i = c.loop-offer.offer-index in
    let rest = filter test (drop (i + 1) kept) in
    elim c.if-counts.branch [
      | then-counts+else-not-stands_at w ↦
          let here = sym w.stands_at.ensures ∙ w.if-not-stands_at.false in
          let less : c.loop-offer.at < length offers = stands_within same_offer _ offers c.loop-offer.at here in
          record {
            left = ap (λ n. pointwise same_offer rest (drop n offers)) w.at-is ∙ sym (next_passes same_offer test kept offers i c.loop-offer.at no_offer true c.loop-offer-test.true (sym c.counts.ensures ∙ w.if-counts.true) here) ∙ c.loop-offer.invariant.left;
            within = let is : c.if-counts.at ≡ c.loop-offer.at + 1 = w.at-is in omega (arith, is, less);
          }
      | else-counts w ↦ record {
        left = ap (λ n. pointwise same_offer rest (drop n offers)) w.at-is ∙ sym (next_left same_offer test kept (drop c.loop-offer.at offers) i no_offer c.loop-offer-test.true (sym c.counts.ensures ∙ w.if-counts.false)) ∙ c.loop-offer.invariant.left;
        within = let is : c.if-counts.at ≡ c.loop-offer.at = w.at-is in omega (arith, is, c.loop-offer.invariant.within);
      }
    ]
