-- A cube that the group's doesn't hold is held by none of its rules.
use Rattle.std.proofs.Common.{sym, ◌∙◌}
use Rattle.classifier.specs.Runs.{lines_in}
use Rattle.block_build.proofs.ClosedLemmas.{first_apart}
use Rattle.block_build.proofs.holding.first_of_group.Goals as goal

pub returns-then-not-within : goal.returns-then-not-within
returns-then-not-within c =
    let group = c.args.group.now in
    sym (first_apart c.args.cube.now group.hull (lines_in group.runs.items) group.held (sym c.within.ensures.value ∙ c.if-not-within.true))
