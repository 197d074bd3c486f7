-- The pair's entry is taken out.
use Rattle.match_switch.proofs.TableLemmas.{table_without, few_before, kept_without, count_without}
use Rattle.match_switch.proofs.switch.Switch.drop_block.Goals as goal

pub overflow_sub-self : goal.overflow_sub-self
overflow_sub-self c =
    few_before c.self.inside.entries.items c.self.inside.rules _ c.self.inside.capacity c.self.invariant c.args.self.now c.self.view_is c.args.pair c.remove-before.result c.remove-before.ensures.value c.count.result c.count.ensures

pub invariant_of-self : goal.invariant_of-self
invariant_of-self c =
    kept_without c.self.inside.entries.items c.self.inside.rules _ c.self.inside.capacity c.self.invariant c.args.self.now c.self.view_is c.args.pair c.remove-before.new.self.items c.remove-before.ensures.items c.remove-before.result c.remove-before.ensures.value c.count.result c.count.ensures

pub returns-clause-table : goal.returns-clause-table
returns-clause-table c =
    table_without c.self.inside.entries.items c.self.inside.rules _ c.self.inside.capacity c.self.invariant c.args.self.now c.self.view_is c.args.pair c.remove-before.new.self.items c.remove-before.ensures.items

pub returns-clause-count : goal.returns-clause-count
returns-clause-count c =
    count_without c.self.inside.entries.items c.self.inside.rules _ c.self.inside.capacity c.self.invariant c.args.self.now c.self.view_is c.args.pair c.remove-before.new.self.items c.remove-before.ensures.items
