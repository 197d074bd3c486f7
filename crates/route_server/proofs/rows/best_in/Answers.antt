use Rattle.std.proofs.Common.{sym, ◌∙◌}
use Rattle.std.proofs.lemmas.List.{take_all}
use Rattle.route_server.specs.Rows.{settled_by}
use Rattle.route_server.proofs.RowSteps.{seen_more, seen_same, seen_best, seen_within, seen_none}
use Rattle.route_server.proofs.rows.best_in.Goals as goal
use Rattle.route_server.proofs.rows.best_in.Goals.{then-is_given, else-is_given}

pub loop-place-preserved : goal.loop-place-preserved
loop-place-preserved c =
    elim c.if-is_given.branch [
      | then-is_given w ↦ rw (w.seen-is, w.places-is, w.count-is) (seen_more (settled_by c.args.terms) c.args.to c.args.prefix c.args.row.now c.loop-place.place c.loop-place.count c.loop-place.seen c.loop-place.places c.index-row-place.result w.seen_of.result
          c.loop-place.invariant c.loop-place-test.true c.requires.short c.index-row-place.is (sym w.if-is_given.true ∙ c.is_given.ensures) w.seen_of.ensures)
      | else-is_given w ↦ rw (w.seen-is, w.places-is, w.count-is) (seen_same (settled_by c.args.terms) c.args.to c.args.prefix c.args.row.now c.loop-place.place c.loop-place.count c.loop-place.seen c.loop-place.places c.index-row-place.result
          c.loop-place.invariant c.loop-place-test.true c.index-row-place.is (sym w.if-is_given.false ∙ c.is_given.ensures))
    ]

pub returns-in_err-chosen-clause-best : goal.returns-in_err-chosen-clause-best
returns-in_err-chosen-clause-best c = rw c.from_residual.ensures (seen_none (settled_by c.args.terms) c.args.to c.args.prefix c.args.row.now c.loop-place.place c.loop-place.count c.loop-place.seen c.loop-place.places
    c.loop-place.invariant (take_all c.loop-place.place c.args.row.now c.loop-place-test.false) c.in_err-chosen.ensures.best)

pub returns-clause-best : goal.returns-clause-best
returns-clause-best c = seen_best (settled_by c.args.terms) c.args.to c.args.prefix c.args.row.now c.loop-place.place c.loop-place.count c.loop-place.seen c.loop-place.places c.in_ok-chosen.chosen
    c.loop-place.invariant (take_all c.loop-place.place c.args.row.now c.loop-place-test.false) c.in_ok-chosen.ensures.best c.in_ok-chosen.ensures.within

pub returns-clause-within : goal.returns-clause-within
returns-clause-within c = seen_within (settled_by c.args.terms) c.args.to c.args.prefix c.args.row.now c.loop-place.place c.loop-place.count c.loop-place.seen c.loop-place.places c.in_ok-chosen.chosen
    c.loop-place.invariant (take_all c.loop-place.place c.args.row.now c.loop-place-test.false) c.in_ok-chosen.ensures.best c.in_ok-chosen.ensures.within
