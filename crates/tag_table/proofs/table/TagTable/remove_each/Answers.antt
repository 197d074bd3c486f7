use Rattle.std.proofs.Common.{length, ap, ◌∙◌}
use Rattle.std.proofs.lemmas.List.{length-set}
use Rattle.tag_table.proofs.PlaceLemmas.{rises, without_next}
use Rattle.tag_table.proofs.table.TagTable.remove_each.Goals as goal

pub loop-tag-preserved : goal.loop-tag-preserved
loop-tag-preserved g c = record {
  items = without_next c.args.tags.now c.loop-tag.tag-index _ c.loop-tag.self-inside.places.items _ c.loop-tag-test.true c.take_counted.ensures.items ∙ c.loop-tag.invariant.items;
  table = c.take_counted.ensures.table;
  room = ap length c.take_counted.ensures.items ∙ length-set c.loop-tag.self-inside.places.items _ _ ∙ c.loop-tag.invariant.room;
}

pub returns-clause-rising : goal.returns-clause-rising
returns-clause-rising g c = rises 0 c.loop-tag.self-inside.places.items
