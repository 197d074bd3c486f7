use Rattle.std.proofs.Common.{length, take, drop, length-drop, sym, ap, ◌∙◌, arith}
use Rattle.advert_queue.proofs.ChangedMaps.{changed-append}
use Rattle.advert_queue.specs.Changes.{changed}
use Rattle.advert_queue.proofs.Fronts.{front_take, front_drop}
use Rattle.advert_queue.proofs.changes.tell.Goals as goal

pub tell_first-requires-clause-some : goal.tell_first-requires-clause-some
tell_first-requires-clause-some c =
    let len = ap length c.loop-done.invariant.news in
    let left = length-drop c.loop-done._done c.args.news.now.items in
    omega (arith, len, left, c.requires.enough)

pub tell_first-requires-clause-kept : goal.tell_first-requires-clause-kept
tell_first-requires-clause-kept c = c.loop-done.invariant.kept 0 c.requires.kept

pub loop-done-preserved : goal.loop-done-preserved
loop-done-preserved c = record {
  told =
      c.tell_first.ensures.told
      ∙ (λ i. changed (c.loop-done.invariant.told i) (take 1 (c.loop-done.invariant.news i)))
      ∙ sym (changed-append c.args.told.now.map (take c.loop-done._done c.args.news.now.items) (take 1 (drop c.loop-done._done c.args.news.now.items)))
      ∙ ap (changed c.args.told.now.map) (front_take c.loop-done._done c.args.news.now.items);
  news = c.tell_first.ensures.news ∙ ap (drop 1) c.loop-done.invariant.news ∙ front_drop c.loop-done._done c.args.news.now.items;
  room = (let a = c.tell_first.ensures.room in let b = c.loop-done.invariant.room in omega (arith, a, b));
  counts_room = c.tell_first.ensures.counts_room ∙ c.loop-done.invariant.counts_room;
  present = c.tell_first.ensures.present ∙ c.loop-done.invariant.present;
  kept = λ more kept. c.tell_first.ensures.kept more (c.loop-done.invariant.kept more kept);
}
