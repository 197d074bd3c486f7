-- The rule at the place is the first one that holds the cube.
use Rattle.std.proofs.Common.{sym, ◌∙◌}
use Rattle.block_build.proofs.ByCellLemmas.{holding-at, holding-none}
use Rattle.block_build.proofs.exits.line_at.Goals as goal

pub returns-in-Some : goal.returns-in-Some
returns-in-Some c = λ cube known. c.rule_at.ensures ∙ holding-at cube c.args.xs.now c.in-Some.place (sym known ∙ c.in-Some.is)

pub returns-in-None : goal.returns-in-None
returns-in-None c = λ cube known. sym (holding-none cube c.args.xs.now (sym known ∙ c.in-None.is))
