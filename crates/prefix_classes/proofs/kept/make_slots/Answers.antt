use Rattle.std.proofs.Common.{◌∙◌}
use Rattle.std.specs.Result.{is_ok}
use Rattle.prefix_classes.proofs.SlotLemmas.{value_made}
use Rattle.prefix_classes.proofs.kept.make_slots.Goals as goal

pub loop-next-preserved : goal.loop-next-preserved
loop-next-preserved c = λ n. value_made (is_ok c.push.result) c.loop-next.shared.items c.push.new.self.items c.push.ensures.items n ∙ c.loop-next.invariant n
