use Rattle.std.proofs.Common.{sym, ap, ◌∙◌}
use Rattle.std.specs.FinMap.Entries.{find}
use Rattle.net_types.specs.Keys.{tag_cmp}
use Rattle.ordered_map.specs.Entries.{without}
use Rattle.tag_table.specs.Entries.{entries_of}
use Rattle.tag_table.proofs.PlaceLemmas.{found_at, rises, without_at}
use Rattle.tag_table.proofs.table.TagTable.remove.Goals as goal

pub returns-clause-value : goal.returns-clause-value
returns-clause-value g c = c.take_counted.ensures.value ∙ sym (found_at c.args.tag c.self.inside.places.items) ∙ ap (λ s. find tag_cmp c.args.tag s.items) c.self.view_is

pub returns-clause-items : goal.returns-clause-items
returns-clause-items g c = ap entries_of c.take_counted.ensures.items ∙ without_at c.args.tag c.self.inside.places.items ∙ ap (λ s. without tag_cmp c.args.tag s.items) c.self.view_is

pub returns-clause-rising : goal.returns-clause-rising
returns-clause-rising g c = rises 0 c.take_counted.new.places.items
