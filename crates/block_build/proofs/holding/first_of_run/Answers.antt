-- A cube that the run's doesn't hold is held by none of its rules.
use Rattle.std.proofs.Common.{sym, ◌∙◌}
use Rattle.block_build.proofs.ClosedLemmas.{first_apart}
use Rattle.block_build.proofs.holding.first_of_run.Goals as goal

pub returns-then-not-within : goal.returns-then-not-within
returns-then-not-within c =
    let run = c.args.run.now in
    sym (first_apart c.args.cube.now run.hull run.lines.now run.held (sym c.within.ensures.value ∙ c.if-not-within.true))
