-- Tight rules are their own tight form.
use Rattle.recompile.proofs.TightRules.{own_form}
use Rattle.recompile.proofs.tight.tightened.Goals as goal

pub returns-then-is_tight-clause-tight : goal.returns-then-is_tight-clause-tight
returns-then-is_tight-clause-tight g c = own_form c.args.old.now (c.is_tight.ensures.yes c.if-is_tight.true)
