use Rattle.std.proofs.Common.{◌∙◌}
use Rattle.prefix_classes.proofs.ShownLemmas.{sorted-shown}
use Rattle.prefix_classes.proofs.SlotLemmas.{without_next}
use Rattle.prefix_classes.proofs.kept.KeptTable.remove_each.Goals as goal

pub loop-tag-preserved : goal.loop-tag-preserved
loop-tag-preserved c = record {
  items = without_next c.args.tags.now c.loop-tag.tag-index _ _ _ c.loop-tag-test.true c.take_out.ensures.items ∙ c.loop-tag.invariant.items;
  shared = c.take_out.ensures.shared;
  room = c.take_out.ensures.room ∙ c.loop-tag.invariant.room;
}

pub returns-clause-rising : goal.returns-clause-rising
returns-clause-rising c = sorted-shown c.loop-tag.self-inside.shared.items c.loop-tag.self-inside.places.items ∙ c.loop-tag.invariant.shared.sorted
