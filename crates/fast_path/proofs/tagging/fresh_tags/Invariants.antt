use Rattle.std.proofs.Common.{◌≡◌, ◌-◌, ◌≤◌, length}
use Rattle.std.specs.Prelude.{find, slice_get, take}
use Rattle.std.specs.Vec.{vec_len}
use Rattle.next_hop_pool.specs.Free.{free_tags, is_above}
use Rattle.fast_path.proofs.tagging.fresh_tags.Given as goal

abbrev pub invariant-loop-last : goal.invariant-loop-last
invariant-loop-last l = record {
  taken : l.tags.items ≡ take (length l.tags.items) (free_tags l.pool);
  next : find (is_above l.last) (free_tags l.pool) ≡ slice_get (free_tags l.pool) (length l.tags.items);
  few : length l.tags.items ≤ l.count;
  long : vec_len l.tags ≡ length l.tags.items;
}

abbrev pub decreases-loop-last : goal.decreases-loop-last
decreases-loop-last l = l.count - length l.tags.items
