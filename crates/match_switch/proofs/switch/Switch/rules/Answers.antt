use Rattle.std.proofs.Common.{sym}
use Rattle.match_switch.proofs.TableLemmas.{count_is}
use Rattle.match_switch.proofs.switch.Switch.rules.Goals as goal

pub returns : goal.returns
returns c = sym (count_is c.self.inside.entries.items c.self.inside.rules _ c.self.inside.capacity c.self.invariant c.args.self.now c.self.view_is)
