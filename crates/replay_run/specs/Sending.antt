-- Texts that wait until they are long or nothing comes behind them, and are written then.
use Rattle.std.specs.Prelude.{◌≡◌, ℕ, List, ◌++◌, Option}
use Rattle.std.specs.Io.KnownBytes.{Appends}

-- Of a text w behind one that waited, the front is written and what is behind it waits; the rest is lost.
pub record IsSent (held held' : Option (List ℕ)) (waited w waits rest : List ℕ) : Type 0 where
  pub front : List ℕ
  pub appends : Appends held held' front
  pub whole : waited ++ w ≡ (front ++ waits) ++ rest
