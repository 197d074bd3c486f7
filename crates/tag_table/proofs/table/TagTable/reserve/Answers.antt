use Rattle.std.proofs.Common.{sym, ap, ◌∙◌}
use Rattle.std.specs.FinMap.Entries.{is_sorted}
use Rattle.net_types.specs.Keys.{tag_cmp}
use Rattle.tag_table.proofs.PlaceLemmas.{rises}
use Rattle.tag_table.proofs.table.TagTable.reserve.Goals as goal

pub returns-then-tags-len-clause-rising : goal.returns-then-tags-len-clause-rising
returns-then-tags-len-clause-rising g c = ap (λ s. is_sorted tag_cmp s.items) (sym c.self.view_is) ∙ rises 0 c.self.inside.places.items

pub returns-then-tags-gt-MOST-clause-rising : goal.returns-then-tags-gt-MOST-clause-rising
returns-then-tags-gt-MOST-clause-rising g c = ap (λ s. is_sorted tag_cmp s.items) (sym c.self.view_is) ∙ rises 0 c.self.inside.places.items

pub returns-clause-rising : goal.returns-clause-rising
returns-clause-rising g c = rises 0 c.fill.new.places.items
