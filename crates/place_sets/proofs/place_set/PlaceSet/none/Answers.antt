use Rattle.std.proofs.Common.{ap, get_or, ◌/◌, List, ℕ}
use Rattle.place_sets.proofs.PlaceLemmas.{has_none}
use Rattle.place_sets.proofs.place_set.PlaceSet.none.Goals as goal

pub returns : goal.returns
returns c k = has_none c.new.result.items k (ap (λ (w : List ℕ). get_or w (k / 64) 0) c.new.ensures.items)
