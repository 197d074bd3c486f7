use Rattle.std.proofs.Common.{sym, ◌∙◌}
use Rattle.decision.proofs.WinnerLemmas.{pick_won, pick_lost, passes_best, no_winner, no_routes}
use Rattle.decision.proofs.choice.winner_of.Goals as goal
use Rattle.decision.proofs.choice.winner_of.Goals.{then-wins, else-wins}

pub loop-place-preserved : goal.loop-place-preserved
loop-place-preserved c =
    let within = c.loop-place-test.true in
    elim c.if-wins.branch [
      | then-wins w ↦ record {
        picked = pick_won c.lead_of-lead.result c.args.routes.now c.loop-place.place _ c.loop-place.winner c.if-wins.winner _ within (sym w.if-wins.true ∙ c.wins.ensures) w.winner-is c.loop-place.invariant.picked;
        within = rw w.winner-is within;
      }
      | else-wins w ↦ record {
        picked = pick_lost c.lead_of-lead.result c.args.routes.now c.loop-place.place _ c.loop-place.winner c.if-wins.winner _ within (sym w.if-wins.false ∙ c.wins.ensures) w.winner-is c.loop-place.invariant.picked;
        within = rw w.winner-is c.loop-place.invariant.within;
      }
    ]

pub returns-clause-best : goal.returns-clause-best
returns-clause-best c = passes_best c.in_ok-first.field-0.now c.args.routes.now c.loop-place.winner c.loop-place.place c.lead_of-lead.result c.in_ok-first.ensures.value c.lead_of-lead.ensures c.loop-place-test.false c.loop-place.invariant.within c.loop-place.invariant.picked

pub returns-clause-none : goal.returns-clause-none
returns-clause-none c = (λ e. no_winner c.args.routes.now (sym (returns-clause-best c) ∙ e), λ e. returns-clause-best c ∙ no_routes c.args.routes.now e)
