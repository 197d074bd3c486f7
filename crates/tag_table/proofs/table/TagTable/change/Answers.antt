use Rattle.std.proofs.Common.{ap, ◌∙◌}
use Rattle.net_types.specs.Keys.{tag_cmp}
use Rattle.ordered_map.specs.Changes.{changed_at}
use Rattle.tag_table.specs.Entries.{entries_of}
use Rattle.tag_table.proofs.PlaceLemmas.{changed_in, rises, table_changed}
use Rattle.tag_table.proofs.table.TagTable.change.Goals as goal

pub invariant_of-self : goal.invariant_of-self
invariant_of-self g c = table_changed c.args.tag.0 (g.C.Change.changed c.args.change.now) c.self.inside.places.items _ c.self.inside.count c.self.invariant c.change_at.ensures

pub returns-clause-items : goal.returns-clause-items
returns-clause-items g c =
    ap entries_of c.change_at.ensures
    ∙ changed_in c.args.tag (g.C.Change.changed c.args.change.now) c.self.inside.places.items
    ∙ ap (λ s. changed_at tag_cmp c.args.tag (g.C.Change.changed c.args.change.now) s.items) c.self.view_is

pub returns-clause-rising : goal.returns-clause-rising
returns-clause-rising g c = rises 0 c.change_at.new.places.items
