use Rattle.std.proofs.Common.{sym, ◌∙◌}
use Rattle.std.specs.FinMap.{keys}
use Rattle.net_types.proofs.RisingLemmas.{keys-IsRising}
use Rattle.net_types.specs.Keys.{pair_cmp}
use Rattle.exchange_core.proofs.PortPairs.{nothing_past, other_port, same_port}
use Rattle.exchange_core.proofs.rebuilt.next_at.Goals as goal

pub returns-in_default : goal.returns-in_default
returns-in_default c = sym (nothing_past c.args.last (keys c.args.switch.now.table) (sym c.next_pair.ensures ∙ c.in_default.is))

pub returns-then-pair-last : goal.returns-then-pair-last
returns-then-pair-last c = sym (same_port c.args.last c.in-Some.pair (keys c.args.switch.now.table) (sym c.next_pair.ensures ∙ c.in-Some.is) c.if-pair-last.true)

pub returns-else-pair-last : goal.returns-else-pair-last
returns-else-pair-last c =
    sym (other_port c.args.last c.in-Some.pair (keys c.args.switch.now.table) (keys-IsRising pair_cmp c.args.switch.now.table) (sym c.next_pair.ensures ∙ c.in-Some.is) c.if-pair-last.false)
