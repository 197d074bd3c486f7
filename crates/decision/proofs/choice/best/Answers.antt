use Rattle.std.proofs.Common.{sym, ap, ◌∙◌}
use Rattle.std.specs.Prelude.{slice_get}
use Rattle.std.specs.Option.{option_and_then}
use Rattle.decision.specs.Passes.{best_place}
use Rattle.decision.specs.Seen.{seen}
use Rattle.decision.proofs.PlaceLemmas.{best_at_place, best_is}
use Rattle.decision.proofs.choice.best.Goals as goal

pub returns-clause-best : goal.returns-clause-best
returns-clause-best c = λ cs same.
    best_is cs ∙ best_at_place seen cs
    ∙ ap (λ ys. option_and_then (slice_get cs) (best_place ys)) same
    ∙ ap (option_and_then (slice_get cs)) (sym c.winner_of.ensures.best)
