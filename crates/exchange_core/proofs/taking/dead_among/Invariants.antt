use Rattle.std.proofs.Common.{◌≡◌, filter, take}
use Rattle.exchange_core.specs.Taking.{is_dead}
use Rattle.exchange_core.proofs.taking.dead_among.Given as goal

-- those among the tags so far
abbrev pub invariant-loop-tag : goal.invariant-loop-tag
invariant-loop-tag l = l.dead.items ≡ filter (is_dead l.classes.tag l.adverts.told l.who.0) (take l.tag-index l.tags)
