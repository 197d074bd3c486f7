use Rattle.std.proofs.Common.{◌+◌, true, false, drop, sym, ap, ◌∙◌, arith}
use Rattle.std.specs.Prelude.{slice_get}
use Rattle.std.specs.Cmp.Lexicographic.{pointwise}
use Rattle.std.specs.Option.{option_map_or}
use Rattle.std.proofs.Math.ListN.{drop_of_length-le}
use Rattle.net_types.specs.Attributes.{same_offer}
use Rattle.net_types.specs.Signatures.{offer}
use Rattle.net_types.specs.declared.route.Offer.{Offer}
use Rattle.route_server.specs.Rows.{settled_by, held_by}
use Rattle.route_server.proofs.CompareSteps.{compare_more, compare_end, offers_step}
use Rattle.route_server.proofs.Parts.{offers_by, offer_at}
use Rattle.route_server.proofs.compared.are_offers.Goals as goal
use Rattle.route_server.proofs.compared.are_offers.Goals.{then-is_offered+else-not-has_offer, else-is_offered}

pub returns-then-not-has_offer : goal.returns-then-not-has_offer
returns-then-not-has_offer c =
    let r = settled_by c.args.terms in
    let row = c.args.row.now in
    let i = c.loop-place.place in
    let n = c.loop-place.next in
    let h = c.index-row-place.result in
    compare_more same_offer c.args.offers.now n (offer r (held_by r h)) (offers_by r c.args.to c.args.chosen c.args.prefix (drop i row)) (offers_by r c.args.to c.args.chosen c.args.prefix (drop (i + 1) row)) false _
    (offers_step r c.args.to c.args.chosen c.args.prefix row i h true c.loop-place-test.true c.index-row-place.is (sym c.if-is_offered.true ∙ c.is_offered.ensures))
    (sym c.if-not-has_offer.true ∙ c.has_offer.ensures ∙ ap (λ (x : Offer). option_map_or (λ (y : Offer). same_offer y x) (slice_get c.args.offers.now n) false) (offer_at r c.args.to c.args.chosen c.args.prefix row i h c.loop-place-test.true c.index-row-place.is c.args.all.now _ c.requires))
    c.loop-place.invariant.left

pub loop-place-preserved : goal.loop-place-preserved
loop-place-preserved c =
    let r = settled_by c.args.terms in
    let row = c.args.row.now in
    let i = c.loop-place.place in
    let n = c.loop-place.next in
    let h = c.index-row-place.result in
    elim c.if-is_offered.branch [
      | then-is_offered+else-not-has_offer w ↦ rw w.next-is (record {
        fewer = let k = c.loop-place.invariant.fewer in omega (arith, k);
        left = compare_more same_offer c.args.offers.now n (offer r (held_by r h)) (offers_by r c.args.to c.args.chosen c.args.prefix (drop i row)) (offers_by r c.args.to c.args.chosen c.args.prefix (drop (i + 1) row)) true _
            (offers_step r c.args.to c.args.chosen c.args.prefix row i h true c.loop-place-test.true c.index-row-place.is (sym w.if-is_offered.true ∙ c.is_offered.ensures))
            (sym w.if-not-has_offer.false ∙ w.has_offer.ensures ∙ ap (λ (x : Offer). option_map_or (λ (y : Offer). same_offer y x) (slice_get c.args.offers.now n) false) (offer_at r c.args.to c.args.chosen c.args.prefix row i h c.loop-place-test.true c.index-row-place.is c.args.all.now _ c.requires))
            c.loop-place.invariant.left;
      })
      | else-is_offered w ↦ rw w.next-is (record {
        fewer = let k = c.loop-place.invariant.fewer in omega (arith, k);
        left = ap (pointwise same_offer (drop n c.args.offers.now)) (sym (offers_step r c.args.to c.args.chosen c.args.prefix row i h false c.loop-place-test.true c.index-row-place.is (sym w.if-is_offered.false ∙ c.is_offered.ensures))) ∙ c.loop-place.invariant.left;
      })
    ]

pub returns : goal.returns
returns c =
    let r = settled_by c.args.terms in
    let n = c.loop-place.next in
    sym (compare_end same_offer c.args.offers.now n)
    ∙ ap (λ row. pointwise same_offer (drop n c.args.offers.now) (offers_by r c.args.to c.args.chosen c.args.prefix row)) (sym (drop_of_length-le c.args.row.now c.loop-place-test.false))
    ∙ c.loop-place.invariant.left
