use Rattle.std.proofs.Common.{ap, ◌∙◌}
use Rattle.std.specs.FinMap.{from_sorted, remove}
use Rattle.net_types.proofs.OrderLemmas.{tags_total}
use Rattle.net_types.proofs.PlaceLemmas.{remove_sorted}
use Rattle.net_types.proofs.TieLemmas.{tag_cmp-IsAntisymmetric}
use Rattle.net_types.specs.Keys.{tag_cmp}
use Rattle.prefix_classes.proofs.grouping.Grouping.take_out.Goals as goal

pub returns : goal.returns
returns c =
    ap (from_sorted {R = tag_cmp}) c.remove.ensures.items
    ∙ remove_sorted tag_cmp tags_total tag_cmp-IsAntisymmetric c.args.tag c.self.inside.tags.items c.self.invariant
    ∙ ap (λ m. remove m c.args.tag) c.self.view_is
