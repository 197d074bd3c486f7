use Rattle.std.proofs.Common.{sym, ◌∙◌}
use Rattle.route_server.specs.Rows.{settled_by}
use Rattle.route_server.proofs.Parts.{offer_at, offer_more, offer_same}
use Rattle.route_server.proofs.signature.offers_in.Goals as goal
use Rattle.route_server.proofs.signature.offers_in.Goals.{then-is_offered+in_ok-push, else-is_offered}

pub loop-place-preserved : goal.loop-place-preserved
loop-place-preserved c = elim c.if-is_offered.branch [
  | then-is_offered+in_ok-push w ↦ offer_more (settled_by c.args.terms) c.args.to c.args.chosen c.args.prefix c.args.row.now c.loop-place.place c.index-row-place.result c.loop-place-test.true c.index-row-place.is
      c.loop-place.offers c.if-is_offered.offers _ (sym w.if-is_offered.true ∙ c.is_offered.ensures)
      (offer_at (settled_by c.args.terms) c.args.to c.args.chosen c.args.prefix c.args.row.now c.loop-place.place c.index-row-place.result c.loop-place-test.true c.index-row-place.is c.args.all.now _ c.requires)
      c.loop-place.invariant (w.offers-is ∙ w.in_ok-push.ensures.ok)
  | else-is_offered w ↦ offer_same (settled_by c.args.terms) c.args.to c.args.chosen c.args.prefix c.args.row.now c.loop-place.place c.index-row-place.result c.loop-place-test.true c.index-row-place.is
      c.loop-place.offers c.if-is_offered.offers (sym w.if-is_offered.false ∙ c.is_offered.ensures) c.loop-place.invariant w.offers-is
]
