use Rattle.std.proofs.Common.{sym, ap, length, ◌∙◌}
use Rattle.std.specs.FinMap.{entries}
use Rattle.net_types.proofs.PlaceLemmas.{entries_of_sorted}
use Rattle.net_types.specs.Keys.{tag_cmp}
use Rattle.prefix_classes.proofs.grouping.Grouping.len.Goals as goal

pub returns : goal.returns
returns c = c.len.ensures ∙ ap length (sym (entries_of_sorted tag_cmp c.self.inside.tags.items c.self.invariant)) ∙ ap (λ m. length (entries m)) c.self.view_is
