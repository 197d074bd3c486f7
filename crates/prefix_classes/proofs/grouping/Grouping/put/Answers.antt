use Rattle.std.proofs.Common.{ap, ◌∙◌}
use Rattle.std.specs.FinMap.{from_sorted, insert}
use Rattle.net_types.proofs.OrderLemmas.{tags_total}
use Rattle.net_types.proofs.PlaceLemmas.{insert_sorted}
use Rattle.net_types.specs.Keys.{tag_cmp}
use Rattle.prefix_classes.proofs.grouping.Grouping.put.Goals as goal

pub returns-clause-placed : goal.returns-clause-placed
returns-clause-placed c =
    ap (from_sorted {R = tag_cmp}) c.put.ensures.items
    ∙ insert_sorted tag_cmp tags_total c.args.tag c.args.sig c.reserve.new.self.items c.reserve.ensures.rising
    ∙ ap (λ m. insert m c.args.tag c.args.sig) (ap (from_sorted {R = tag_cmp}) c.reserve.ensures.items ∙ c.self.view_is)
