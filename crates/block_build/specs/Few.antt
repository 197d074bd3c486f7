-- Unions of lists with numbers.
use Rattle.std.specs.Prelude.{◌≡◌, List, Some}
use Rattle.std.specs.List.{slice_get}
use Rattle.classifier.specs.Items.{Item, add_all}
use Rattle.classifier.specs.Numbered.{list_at}
use Rattle.block_build.specs.declared.few.Last.{Last}

-- the number is that of the union of the two lists
abbrev pub IsUnion : List (List Item) → List (List Item) → List (List Item) → Last → Type 0
IsUnion firsts seconds lists last = slice_get lists last.number ≡ Some (add_all (list_at firsts last.first) (list_at seconds last.second))
