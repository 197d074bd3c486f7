-- What each answer to the question where a prefix stands means.
use Rattle.std.specs.Prelude.{◌≡◌, ◌≤◌}
use Rattle.net_types.specs.declared.prefix.Prefix.{Prefix}
use Rattle.prefix_map.specs.Halves.{past, LiesLow, LiesHigh}
use Rattle.prefix_map.specs.declared.place.Place.{Place}
use Rattle.prefix_map.specs.declared.place.Place.TheVariants.{Same, Low, High, OverLow, OverHigh, Before, After}

-- where a prefix stands, seen from the one before it
abbrev pub IsPlaced : Prefix → Prefix → Place → Type 0
IsPlaced at key Same = at ≡ key
IsPlaced at key Low = LiesLow at key
IsPlaced at key High = LiesHigh at key
IsPlaced at key OverLow = LiesLow key at
IsPlaced at key OverHigh = LiesHigh key at
IsPlaced at key Before = past key ≤ at.address.0
IsPlaced at key After = past at ≤ key.address.0
