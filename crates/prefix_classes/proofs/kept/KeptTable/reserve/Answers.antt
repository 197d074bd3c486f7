-- Slots that are made have no signature.
use Rattle.std.proofs.Common.{◌∙◌}
use Rattle.prefix_classes.proofs.ShownLemmas.{sorted-shown}
use Rattle.prefix_classes.proofs.kept.KeptTable.reserve.Goals as goal

pub returns-clause-rising : goal.returns-clause-rising
returns-clause-rising c = sorted-shown c.make_slots.new.shared.items c.reserve.new.self.items ∙ c.reserve.ensures.rising
