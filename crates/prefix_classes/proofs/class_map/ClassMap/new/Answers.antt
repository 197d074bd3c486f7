use Rattle.std.proofs.Common.{ap, ◌∙◌}
use Rattle.net_types.proofs.PlaceLemmas.{sorted_none}
use Rattle.net_types.specs.Keys.{tag_cmp}
use Rattle.prefix_classes.proofs.KeepLemmas.{none_counted}
use Rattle.prefix_classes.specs.Counts.{sigs_of}
use Rattle.prefix_classes.proofs.class_map.ClassMap.new.Goals as goal

pub invariant_of-result : goal.invariant_of-result
invariant_of-result c = none_counted _ _ c.new.ensures c.new-2.ensures.items

pub returns-clause-kept : goal.returns-clause-kept
returns-clause-kept c = ap sigs_of c.new-2.ensures.items ∙ sorted_none tag_cmp
