-- The tags that are left rise.
use Rattle.std.proofs.Common.{◌∙◌}
use Rattle.prefix_classes.proofs.ShownLemmas.{sorted-shown}
use Rattle.prefix_classes.proofs.kept.KeptTable.remove.Goals as goal

pub returns-clause-rising : goal.returns-clause-rising
returns-clause-rising c = sorted-shown c.take_out.new.shared.items c.take_out.new.places.items ∙ c.take_out.ensures.shared.sorted
