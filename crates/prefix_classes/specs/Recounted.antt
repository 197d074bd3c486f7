-- What is kept of a tag once it has a member more or less.
use Rattle.std.specs.Prelude.{◌+◌, ◌-◌, ◌^◌, min}
use Rattle.prefix_classes.specs.declared.members.Kept.{Kept}
use Rattle.prefix_classes.specs.declared.members.Recount.{Recount}
use Rattle.prefix_classes.specs.declared.members.Recount.TheVariants.{More, Less}

-- a number stands still at the last one of 64 bits, and at 0
abbrev pub recounted : Recount → Kept → Kept
recounted More k = record k { members = min (k.members + 1) (2 ^ 64 - 1) }
recounted Less k = record k { members = k.members - 1 }
