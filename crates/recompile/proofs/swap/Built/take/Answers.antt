-- The pair's entry is taken out.
use Rattle.std.proofs.Common.{◌∙◌}
use Rattle.recompile.proofs.BuiltLemmas.{found_is, without_is}
use Rattle.recompile.proofs.swap.Built.take.Goals as goal

pub returns-clause-block : goal.returns-clause-block
returns-clause-block c = c.remove.ensures.value ∙ found_is c.self.inside.pairs.items c.self.invariant c.args.self.now c.self.view_is c.args.pair

pub returns-clause-rest : goal.returns-clause-rest
returns-clause-rest c = without_is c.self.inside.pairs.items c.self.invariant c.args.self.now c.self.view_is c.args.pair c.remove.new.self.items c.remove.ensures.items
