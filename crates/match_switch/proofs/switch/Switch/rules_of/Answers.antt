-- What the entries have of the pair is what the table has.
use Rattle.std.proofs.Common.{ap, sym, ◌∙◌}
use Rattle.std.specs.Prelude.{option_copied, Some}
use Rattle.match_switch.proofs.TableLemmas.{get_is}
use Rattle.match_switch.proofs.switch.Switch.rules_of.Goals as goal

pub returns-in-Some : goal.returns-in-Some
returns-in-Some c =
    ap Some c.rules.ensures ∙ sym (ap option_copied c.in-Some.is) ∙ c.get.ensures
    ∙ sym (get_is c.self.inside.entries.items c.self.inside.rules _ c.self.inside.capacity c.self.invariant c.args.self.now c.self.view_is c.args.pair)

pub returns-in-None : goal.returns-in-None
returns-in-None c =
    sym (ap option_copied c.in-None.is) ∙ c.get.ensures
    ∙ sym (get_is c.self.inside.entries.items c.self.inside.rules _ c.self.inside.capacity c.self.invariant c.args.self.now c.self.view_is c.args.pair)
