use Rattle.std.proofs.Common.{sym, ap, ◌∙◌}
use Rattle.route_server.specs.Rows.{settled_by}
use Rattle.route_server.proofs.ChoiceSteps.{at_more, at_same}
use Rattle.route_server.proofs.choices.give.Goals as goal
use Rattle.route_server.proofs.choices.give.Goals.{then-is_given_in+in_ok-push, else-is_given_in}

pub loop-place-preserved : goal.loop-place-preserved
loop-place-preserved c = elim c.if-is_given_in.branch [
  | then-is_given_in+in_ok-push w ↦ at_more (settled_by c.args.terms) c.args.to c.args.prefix c.args.row.now c.loop-place.place c.loop-place.given.items c.if-is_given_in.given.items c.index-row-place.result
      c.loop-place-test.true c.index-row-place.is (sym w.if-is_given_in.true ∙ c.is_given_in.ensures) (ap (λ v. v.items) w.given-is ∙ w.in_ok-push.ensures.items) c.loop-place.invariant
  | else-is_given_in w ↦ at_same (settled_by c.args.terms) c.args.to c.args.prefix c.args.row.now c.loop-place.place c.loop-place.given.items c.if-is_given_in.given.items c.index-row-place.result
      c.loop-place-test.true c.index-row-place.is (sym w.if-is_given_in.false ∙ c.is_given_in.ensures) (ap (λ v. v.items) w.given-is) c.loop-place.invariant
]
