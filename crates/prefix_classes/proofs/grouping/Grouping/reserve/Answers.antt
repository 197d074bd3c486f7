use Rattle.std.proofs.Common.{ap, ◌∙◌}
use Rattle.std.specs.FinMap.{from_sorted}
use Rattle.net_types.specs.Keys.{tag_cmp}
use Rattle.prefix_classes.proofs.grouping.Grouping.reserve.Goals as goal

pub returns : goal.returns
returns c = ap (from_sorted {R = tag_cmp}) c.reserve.ensures.items ∙ c.self.view_is
