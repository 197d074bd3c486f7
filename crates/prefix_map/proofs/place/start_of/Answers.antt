use Rattle.std.proofs.Common.{sym, subst, ◌∙◌}
use Rattle.prefix_map.specs.Halves.{LiesIn}
use Rattle.prefix_map.proofs.HalfLemmas.{any_in, within_in}
use Rattle.prefix_map.proofs.place.start_of.Goals as goal

pub returns-in-Ok-clause-left : goal.returns-in-Ok-clause-left
returns-in-Ok-clause-left c = within_in c.args.left c.in-Ok.start (sym c.within.ensures ∙ c.if-within.true)

pub returns-in-Ok-clause-right : goal.returns-in-Ok-clause-right
returns-in-Ok-clause-right c = within_in c.args.right c.in-Ok.start (sym c.within-then-within.ensures ∙ c.if-within-2.true)

pub returns-in_default-clause-left : goal.returns-in_default-clause-left
returns-in_default-clause-left c = subst (λ w. LiesIn w c.args.left) (sym c.any.ensures) (any_in c.args.left)

pub returns-in_default-clause-right : goal.returns-in_default-clause-right
returns-in_default-clause-right c = subst (λ w. LiesIn w c.args.right) (sym c.any.ensures) (any_in c.args.right)
