-- What a map is seen as.
use Rattle.std.specs.Prelude.{ℕ, List}

-- the entries in the order of their keys, and how many new keys go in without memory
pub record Held (K V : Type 0) : Type 0 where
  pub items : List (K × V)
  pub room : ℕ
