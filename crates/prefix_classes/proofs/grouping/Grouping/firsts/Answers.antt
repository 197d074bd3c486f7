use Rattle.std.proofs.Common.{sym, ap, subst, ◌∙◌}
use Rattle.std.specs.Prelude.{IfOk}
use Rattle.std.specs.FinMap.{entries}
use Rattle.net_types.proofs.PlaceLemmas.{entries_of_sorted}
use Rattle.net_types.specs.Keys.{tag_cmp}
use Rattle.prefix_classes.specs.Placed.{AreFirsts}
use Rattle.prefix_classes.proofs.grouping.Grouping.firsts.Goals as goal

pub returns : goal.returns
returns c =
    let items = sym (entries_of_sorted tag_cmp c.self.inside.tags.items c.self.invariant) ∙ ap entries c.self.view_is in
    subst (λ es. IfOk c.firsts_of.result (λ firsts. AreFirsts es firsts.items)) items c.firsts_of.ensures
