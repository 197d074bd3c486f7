-- The pairs with other rules are those that are looked at.
use Rattle.std.proofs.Common.{ap, ◌∙◌}
use Rattle.std.specs.Prelude.{filter}
use Rattle.job_end.specs.Rebuilt.{is_changed}
use Rattle.job_end.proofs.changed.changed_pairs.Goals as goal

pub returns : goal.returns
returns g c = c.in_ok-changed.ensures ∙ ap (filter (is_changed (g.B.Blocks.installed c.args.switch.now).table c.args.built.now c.args.gone.now)) (c.items.ensures ∙ c.in_ok-pairs.ensures)
