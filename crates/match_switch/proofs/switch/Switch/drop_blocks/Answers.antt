-- The pairs' entries are taken out, and their rules counted.
use Rattle.std.proofs.Common.{◌+◌, ◌<◌, ◌^◌, subst, arith}
use Rattle.match_switch.proofs.TableLemmas.{table_without_each, few_gone, kept_without_each, count_without_each}
use Rattle.match_switch.proofs.switch.Switch.drop_blocks.Goals as goal

pub remove_counted-requires : goal.remove_counted-requires
remove_counted-requires c = record { few = subst (λ n. 0 + n < 2 ^ 64) c.self.invariant.counted (omega arith) }

pub overflow_sub-self : goal.overflow_sub-self
overflow_sub-self c = few_gone c.self.inside.entries.items c.self.inside.rules _ c.self.inside.capacity c.self.invariant c.args.self.now c.self.view_is c.args.pairs.now c.remove_counted.new.self.items c.remove_counted.ensures.items c.remove_counted.new.tally.rules c.remove_counted.ensures.tally

pub invariant_of-self : goal.invariant_of-self
invariant_of-self c = kept_without_each c.self.inside.entries.items c.self.inside.rules _ c.self.inside.capacity c.self.invariant c.args.self.now c.self.view_is c.args.pairs.now c.remove_counted.new.self.items c.remove_counted.ensures.items c.remove_counted.new.tally.rules c.remove_counted.ensures.tally c.remove_counted.ensures.rising

pub returns-clause-table : goal.returns-clause-table
returns-clause-table c = table_without_each c.self.inside.entries.items c.self.inside.rules _ c.self.inside.capacity c.self.invariant c.args.self.now c.self.view_is c.args.pairs.now c.remove_counted.new.self.items c.remove_counted.ensures.items

pub returns-clause-count : goal.returns-clause-count
returns-clause-count c = count_without_each c.self.inside.entries.items c.self.inside.rules _ c.self.inside.capacity c.self.invariant c.args.self.now c.self.view_is c.args.pairs.now c.remove_counted.new.self.items c.remove_counted.ensures.items c.remove_counted.new.tally.rules c.remove_counted.ensures.tally c.remove_counted.ensures.rising
