use Rattle.std.proofs.Common.{sym, ap, ◌∙◌}
use Rattle.std.specs.FinMap.Entries.{find}
use Rattle.net_types.specs.Keys.{tag_cmp}
use Rattle.tag_table.specs.Entries.{value_in}
use Rattle.tag_table.proofs.PlaceLemmas.{found_at}
use Rattle.tag_table.proofs.table.TagTable.get.Goals as goal

pub returns : goal.returns
returns g c =
    c.value_at.ensures
    ∙ ap (λ ps. value_in ps c.args.tag.0) c.deref.ensures.value
    ∙ sym (found_at c.args.tag c.self.inside.places.items)
    ∙ ap (λ s. find tag_cmp c.args.tag s.items) c.self.view_is
