use Rattle.std.proofs.Common.{◌/◌, arith}
use Rattle.place_sets.proofs.PlaceLemmas.{has_none}
use Rattle.place_sets.proofs.place_set.PlaceSet.is_empty.Goals as goal

pub returns : goal.returns
returns c empty k = has_none c.args.self.now k (cc (c.are_zero_from.ensures empty (k / 64) (omega arith)))
