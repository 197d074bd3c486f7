use Rattle.std.proofs.Common.{sym, ◌∙◌}
use Rattle.match_switch.proofs.TableLemmas.{entries_are}
use Rattle.match_switch.proofs.switch.Switch.iter.Goals as goal

pub returns : goal.returns
returns c = c.new.ensures ∙ c.iter.ensures ∙ sym (entries_are c.self.inside.entries.items c.self.inside.rules _ c.self.inside.capacity c.self.invariant c.args.self.now c.self.view_is)
