use Rattle.std.proofs.Common.{eqb-true, arith}
use Rattle.place_sets.proofs.PlaceLemmas.{has_none}
use Rattle.place_sets.proofs.place_set.PlaceSet.is_empty_at.Goals as goal

pub returns-in-Some : goal.returns-in-Some
returns-in-Some c empty k at = has_none c.args.self.now k
    (cc (eqb-true c.in-Some.bits.now 0 empty, c.in-Some.ensures.lookup.3.1 0))

pub returns-in-None : goal.returns-in-None
returns-in-None c _ k at = has_none c.args.self.now k (cc (c.in-None.ensures.lookup.4 (omega arith) 0))
