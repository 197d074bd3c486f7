use Rattle.std.proofs.Common.{sym, ap, ◌∙◌}
use Rattle.std.specs.Prelude.{is_some}
use Rattle.std.specs.FinMap.{get}
use Rattle.net_types.proofs.PlaceLemmas.{get_sorted}
use Rattle.net_types.specs.Keys.{tag_cmp}
use Rattle.prefix_classes.proofs.grouping.Grouping.has.Goals as goal
use Rattle.net_types.proofs.FindLemmas.{is_some-copied}

pub returns : goal.returns
returns c =
    let found = ap is_some (c.get.ensures ∙ sym (get_sorted tag_cmp c.self.inside.tags.items c.args.tag c.self.invariant) ∙ ap (λ m. get m c.args.tag) c.self.view_is) in
    c.is_some.ensures ∙ sym (is_some-copied c.get.result) ∙ found
