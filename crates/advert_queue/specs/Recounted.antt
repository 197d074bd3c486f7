-- How often a tag is in use once it is once more or less.
use Rattle.std.specs.Prelude.{◌+◌, ◌-◌, ◌^◌, ◌&&◌, Bool, min, nat_eq}
use Rattle.advert_queue.specs.declared.counts.Recount.{Recount}
use Rattle.advert_queue.specs.declared.counts.Recount.TheVariants.{More, Less}
use Rattle.advert_queue.specs.declared.counts.Side.{Side}
use Rattle.advert_queue.specs.declared.counts.Side.TheVariants.{Told, Present}
use Rattle.advert_queue.specs.declared.counts.Uses.{Uses}

-- a number stands still at the last one of 64 bits, and at 0
abbrev pub recounted : Recount → Uses → Uses
recounted (More Told) u = record u { told = min (u.told + 1) (2 ^ 64 - 1) }
recounted (More Present) u = record u { present = min (u.present + 1) (2 ^ 64 - 1) }
recounted (Less Told) u = record u { told = u.told - 1 }
recounted (Less Present) u = record u { present = u.present - 1 }

-- one use alone
abbrev pub one_use : Side → Uses
one_use Told = record { told = 1; present = 0 }
one_use Present = record { told = 0; present = 1 }

-- no entry is counted
abbrev pub is_unused : Uses → Bool
is_unused u = nat_eq u.told 0 && nat_eq u.present 0
