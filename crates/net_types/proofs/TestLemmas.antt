-- A test that passes, as an equation and as a proposition.
use Rattle.std.proofs.Common.{◌≡◌, Bool, true, false, ◌&&◌, refl}
use Rattle.std.specs.Prelude.{T}

pub holds : (b : Bool) → b ≡ true → T b
holds true e = tt
holds false e = cc

pub shown : (b : Bool) → T b → b ≡ true
shown true h = refl
shown false h = absurd h

pub both_hold : (a b : Bool) → T (a && b) → T a × T b
both_hold true b h = (tt, h)
both_hold false b h = absurd h
