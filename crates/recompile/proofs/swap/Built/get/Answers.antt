-- What the entries have of the pair is what was built.
use Rattle.std.proofs.Common.{ap, sym, ◌∙◌}
use Rattle.std.specs.Prelude.{Some, option_copied}
use Rattle.recompile.proofs.BuiltLemmas.{found_is}
use Rattle.recompile.proofs.swap.Built.get.Goals as goal

pub returns-in-Some : goal.returns-in-Some
returns-in-Some c =
    ap Some c.rules.ensures
    ∙ sym (ap option_copied c.in-Some.is) ∙ c.get.ensures ∙ found_is c.self.inside.pairs.items c.self.invariant c.args.self.now c.self.view_is c.args.pair

pub returns-in-None : goal.returns-in-None
returns-in-None c = sym (ap option_copied c.in-None.is) ∙ c.get.ensures ∙ found_is c.self.inside.pairs.items c.self.invariant c.args.self.now c.self.view_is c.args.pair
