use Rattle.std.proofs.Common.{◌-◌}
use Rattle.prefix_map.proofs.place.+common_within.Given as goal

abbrev pub decreases-common_within : goal.decreases-common_within
decreases-common_within l = 32 - l.within.len
