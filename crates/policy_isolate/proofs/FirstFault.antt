-- The first fault of two parts, one behind the other.
use Rattle.std.proofs.Common.{◌≡◌, List, [], ◌∷◌, ◌++◌, Result, Ok, Err}
use Rattle.net_types.specs.declared.isolation.IsolateFault.{IsolateFault}
use Rattle.net_types.specs.Isolation.{first_of}

pub first_then : (xs ys : List IsolateFault) (r : Result (Unit {0}) IsolateFault) → Ok tt ≡ first_of xs → r ≡ first_of ys → r ≡ first_of (xs ++ ys)
first_then [] ys r h k = k
first_then (x ∷ xs) ys r h k = absurd cc

pub first_stays : (xs ys : List IsolateFault) (e : IsolateFault) → Err e ≡ first_of xs → Err e ≡ first_of (xs ++ ys)
first_stays [] ys e h = absurd cc
first_stays (x ∷ xs) ys e h = h
