-- A product of rules that stops at a limit.
use Rattle.std.specs.Prelude.{◌≡◌, ℕ, ◌≤◌, List, [], length, take}
use Rattle.classifier.specs.Lines.{add_lines, product}
use Rattle.classifier.specs.declared.join.Join.{Join}
use Rattle.classifier.specs.declared.line.Line.{Line}

-- The rules are the product of the first ones of a list with another list, and of all of it where they are within the limit.
pub record IsFront (limit : ℕ) (join : Join) (xs ys made : List Line) : Type 0 where
  pub taken : ℕ
  pub is : made ≡ add_lines [] (product join (take taken xs) ys)
  pub whole : length made ≤ limit → made ≡ add_lines [] (product join xs ys)
