use Rattle.std.proofs.Common.{◌≡◌, take}
use Rattle.fast_path.specs.Committing.{signed, tags_of}
use Rattle.exchange_core.proofs.telling.tags_of.Given as goal

-- those of the classes so far
abbrev pub invariant-loop-class : goal.invariant-loop-class
invariant-loop-class l = l.tags.items ≡ tags_of (signed (take l.class-index l.classes))
