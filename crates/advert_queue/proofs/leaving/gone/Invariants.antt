-- Those so far and those of what is left are all.
use Rattle.std.proofs.Common.{◌≡◌, ◌++◌, map, filter}
use Rattle.advert_queue.specs.Counts.{entry_tag}
use Rattle.advert_queue.specs.Leaving.{is_gone}
use Rattle.advert_queue.proofs.leaving.gone.Given as goal

abbrev pub invariant-loop-tag : goal.invariant-loop-tag
invariant-loop-tag l = l.tags.items ++ map entry_tag (filter (is_gone l.counts.items) l.tag-iterator) ≡ map entry_tag (filter (is_gone l.counts.items) l.leaving.items)
