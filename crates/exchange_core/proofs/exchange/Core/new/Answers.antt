use Rattle.std.proofs.Common.{ap, ◌∙◌}
use Rattle.events.specs.declared.Phase.TheVariants.{Start}
use Rattle.registry.specs.Registered.{Registered}
use Rattle.exchange_core.specs.View.{state_of}
use Rattle.exchange_core.proofs.Present.{nobody_there}
use Rattle.exchange_core.proofs.Steps.{starts_kept}
use Rattle.exchange_core.proofs.exchange.Core.new.Goals as goal

pub invariant_of-result : goal.invariant_of-result
invariant_of-result c = record {
  kept = starts_kept c.new.result c.new-2.result c.new-3.result.items c.new-4.result c.new-5.result.told c.new-6.result c.none.result c.new-7.result.items
      c.new.ensures c.new-2.ensures.routes c.new-2.ensures.rules c.new-2.ensures.named c.new-3.ensures.items c.new-4.ensures.tag c.new-4.ensures.kept c.new-5.ensures.told
      c.new-6.ensures.table c.new-6.ensures.capacity c.none.ensures c.new-7.ensures.items;
  present = c.new-5.ensures.present ∙ nobody_there (state_of Start (record { 0 = 0 }) 0 c.new.result c.new-2.result c.new-3.result.items c.new-4.result c.new-5.result.told c.new-6.result c.new-7.result.items) c.new-2.ensures.routes (ap (λ (x : Registered). x.participants) c.new.ensures);
}
