-- The rules that are left are a tight form of all.
use Rattle.std.proofs.Common.{sym, subst, ◌∙◌}
use Rattle.block_build.proofs.TightLemmas.{sifted-form}
use Rattle.block_build.specs.Tight.{IsTightForm}
use Rattle.block_build.proofs.tight.build_tight.Goals as goal

pub returns-clause-tight : goal.returns-clause-tight
returns-clause-tight g c = subst (IsTightForm c.args.old.now) (sym (c.in_ok-block.ensures ∙ c.in_ok-rules.ensures)) (sifted-form c.args.old.now)
