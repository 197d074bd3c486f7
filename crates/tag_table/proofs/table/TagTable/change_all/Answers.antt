use Rattle.std.proofs.Common.{sym, ap, ◌∙◌}
use Rattle.ordered_map.specs.Changes.{changed_all}
use Rattle.tag_table.specs.Entries.{entries_of}
use Rattle.tag_table.proofs.PlaceLemmas.{changed_each, rises, table_all}
use Rattle.tag_table.proofs.table.TagTable.change_all.Goals as goal

pub invariant_of-self : goal.invariant_of-self
invariant_of-self g c = table_all (g.C.Change.changed c.args.change.now) c.self.inside.places.items _ c.self.inside.count c.self.invariant c.change_all.ensures

pub returns-clause-items : goal.returns-clause-items
returns-clause-items g c =
    ap entries_of c.change_all.ensures
    ∙ sym (changed_each (g.C.Change.changed c.args.change.now) 0 c.self.inside.places.items)
    ∙ ap (λ s. changed_all (g.C.Change.changed c.args.change.now) s.items) c.self.view_is

pub returns-clause-rising : goal.returns-clause-rising
returns-clause-rising g c = rises 0 c.change_all.new.places.items
