use Rattle.std.proofs.Common.{sym, ap, ◌∙◌, append-nil}
use Rattle.std.specs.Prelude.{Some, None}
use Rattle.route_server.proofs.ChoiceSteps.{look_more}
use Rattle.route_server.proofs.choices.look.Goals as goal
use Rattle.route_server.proofs.choices.look.Goals.{in-Some+in_ok-push-in-Some, in-None}

pub loop-place-preserved : goal.loop-place-preserved
loop-place-preserved c = elim c.match-sight_at.branch [
  | in-Some+in_ok-push-in-Some w ↦ look_more c.args.seen.now c.args.given.now c.loop-place.place-index 0 (Some w.in-Some.own) c.loop-place.looks.items c.match-sight_at.looks.items c.loop-place-test.true
      (sym w.in-Some.is ∙ c.sight_at.ensures) (ap (λ v. v.items) w.looks-is ∙ w.in_ok-push-in-Some.ensures.items) c.loop-place.invariant
  | in-None w ↦ look_more c.args.seen.now c.args.given.now c.loop-place.place-index 0 None c.loop-place.looks.items c.match-sight_at.looks.items c.loop-place-test.true
      (sym w.in-None.is ∙ c.sight_at.ensures) (ap (λ v. v.items) w.looks-is ∙ sym (append-nil c.loop-place.looks.items)) c.loop-place.invariant
]
