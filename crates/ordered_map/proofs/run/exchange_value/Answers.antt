use Rattle.ordered_map.proofs.RunLemmas.{value_exchanged}
use Rattle.ordered_map.proofs.run.exchange_value.Goals as goal

pub returns-clause-entries : goal.returns-clause-entries
returns-clause-entries g c = value_exchanged c.args.entries.now.items c.args.place c.index_mut.result.now c.index_mut.ensures.value c.args.given.now c.exchange.new.value c.exchange.new.held c.exchange.ensures.given c.exchange.ensures.before
