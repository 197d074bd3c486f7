use Rattle.std.proofs.Common.{ap, ◌∙◌}
use Rattle.std.specs.FinMap.{from_sorted}
use Rattle.net_types.proofs.PlaceLemmas.{sorted_none}
use Rattle.net_types.specs.Keys.{tag_cmp}
use Rattle.prefix_classes.proofs.grouping.Grouping.new.Goals as goal

pub returns : goal.returns
returns c = ap (from_sorted {R = tag_cmp}) c.new.ensures.items ∙ sorted_none tag_cmp
