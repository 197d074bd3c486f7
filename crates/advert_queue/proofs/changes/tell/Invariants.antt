-- So many are told.
use Rattle.std.proofs.Common.{◌≡◌, ℕ, ◌≤◌, take, drop}
use Rattle.advert_queue.specs.Changes.{changed}
use Rattle.advert_queue.specs.Kept.{IsTellable}
use Rattle.advert_queue.proofs.changes.tell.Given as goal

abbrev pub invariant-loop-done : goal.invariant-loop-done
invariant-loop-done l = record {
  told : l.told.map ≡ changed l.fn.told.map (take l._done l.fn.news.items);
  news : l.news.items ≡ drop l._done l.fn.news.items;
  room : l.fn.news.room ≤ l.news.room;
  counts_room : l.counts.room ≡ l.fn.counts.room;
  present : changed l.told.map l.news.items ≡ changed l.fn.told.map l.fn.news.items;
  kept : (more : ℕ) → IsTellable l.fn.told l.fn.news l.fn.counts more → IsTellable l.told l.news l.counts more;
}
