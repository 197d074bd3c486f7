-- What a table is seen as.
use Rattle.std.specs.Prelude.{ℕ, List}
use Rattle.net_types.specs.declared.address.Tag.{Tag}

-- the entries in the order of their tags, and up to which number a tag goes in without memory
pub record Held (V : Type 0) : Type 0 where
  pub items : List (Tag × V)
  pub room : ℕ
