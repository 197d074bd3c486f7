-- Lists of octets.
use Rattle.std.proofs.Common.{zero, suc, ◌<◌, ℕ, List, [], ◌∷◌, ◌++◌, arith}
use Rattle.exchange_laws.specs.Octets.{AreOctets}

pub no_octets : AreOctets []
no_octets k = omega arith

-- an octet before octets
pub octets_more : (x : ℕ) (xs : List ℕ) → x < 256 → AreOctets xs → AreOctets (x ∷ xs)
octets_more x xs here rest zero = here
octets_more x xs here rest (suc k) = rest k

pub octets_append : (xs ys : List ℕ) → AreOctets xs → AreOctets ys → AreOctets (xs ++ ys)
octets_append [] ys front rest = rest
octets_append (x ∷ xs) ys front rest = octets_more x (xs ++ ys) (front zero) (octets_append xs ys (λ k. front (suc k)) rest)
