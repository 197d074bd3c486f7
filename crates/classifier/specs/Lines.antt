-- The lists of rules that the operations make.
use Rattle.std.specs.Prelude.{Bool, false, ◌&&◌, ◌||◌, Option, Some, None, List, [], ◌∷◌, ◌++◌, map, if◌then◌else◌}
use Rattle.std.specs.Option.{option_map}
use Rattle.net_types.specs.declared.cube.Cube.{Cube}
use Rattle.net_types.specs.declared.headers.Loc.TheVariants.{Stay}
use Rattle.net_types.specs.Headers.{followed_by, arrived, no_change}
use Rattle.net_types.specs.Cubes.{everything, meet_cubes, pull_cube, lies_within_cube}
use Rattle.classifier.specs.declared.line.Line.{Line}
use Rattle.classifier.specs.declared.join.Join.{Join}
use Rattle.classifier.specs.declared.join.Join.TheVariants.{Union, Otherwise}
use Rattle.classifier.specs.Items.{Item, add_all}

-- ---- lists in which each line can still be reached

-- the cubes are equal: each lies within the other
abbrev pub same_cube : Cube → Cube → Bool
same_cube a b = lies_within_cube a b && lies_within_cube b a

-- behind the first line the second is never the first with its headers: it has the same cube, or the first has all headers
abbrev pub shadows : Line → Line → Bool
shadows x y = same_cube x.cube y.cube || lies_within_cube everything x.cube

-- behind these lines the line is never the first with its headers
abbrev pub is_shadowed : List Line → Line → Bool
is_shadowed [] y = false
is_shadowed (x ∷ xs) y = shadows x y || is_shadowed xs y

-- the list with a line last, where that line can be reached
abbrev pub add_line : List Line → Line → List Line
add_line xs y = if is_shadowed xs y then xs else xs ++ y ∷ []

-- the first list with each line of the second last, where it can be reached
abbrev pub add_lines : List Line → List Line → List Line
add_lines xs [] = xs
add_lines xs (y ∷ ys) = add_lines (add_line xs y) ys

-- ---- the lines of two lists, joined

-- the items of both, or those of the second where the first has none
abbrev pub joined : Join → List Item → List Item → List Item
joined Union xs ys = add_all xs ys
joined Otherwise [] ys = ys
joined Otherwise (x ∷ xs) ys = x ∷ xs

-- a line of items and a cube
abbrev pub line : List Item → Cube → Line
line items cube = record { cube = cube; results = items }

-- a line that is there, before the others
abbrev pub cons_line : Option Line → List Line → List Line
cons_line None ys = ys
cons_line (Some x) ys = x ∷ ys

-- a line joined with each line of a list, where the two have headers in common
abbrev pub row : Join → Line → List Line → List Line
row join x [] = []
row join x (y ∷ ys) = cons_line (option_map (line (joined join x.results y.results)) (meet_cubes x.cube y.cube)) (row join x ys)

-- each line of the first list joined with each of the second, where the two have headers in common
abbrev pub product : Join → List Line → List Line → List Line
product join [] ys = []
product join (x ∷ xs) ys = row join x ys ++ product join xs ys

-- each line of the first list with the items of the line that has its place in the second
abbrev pub aligned : List Line → List Line → List Line
aligned [] ys = []
aligned (x ∷ xs) [] = []
aligned (x ∷ xs) (y ∷ ys) = line (add_all x.results y.results) x.cube ∷ aligned xs ys

-- ---- one list after another

-- an assignment and a location, and then another
abbrev pub after : Item → Item → Item
after first next = (followed_by first.0 next.0, arrived first.1 next.1)

-- each of the items after the first one, each once
abbrev pub after_all : Item → List Item → List Item
after_all first items = add_all [] (map (after first) items)

-- the lines behind an assignment
abbrev pub pulled : Item → List Line → List Line
pulled first [] = []
pulled first (y ∷ ys) = cons_line (option_map (line (after_all first y.results)) (pull_cube y.cube first.0)) (pulled first ys)

-- what the lines give after each of the items, beside what stands there
abbrev pub block : List Line → List Item → List Line → List Line
block xs [] ys = xs
block xs (item ∷ items) ys = block (add_lines [] (product Union xs (pulled item ys))) items ys

-- the lines of the second list after those of the first
abbrev pub composed : List Line → List Line → List Line
composed [] ys = []
composed (x ∷ xs) ys = block (line [] x.cube ∷ []) x.results ys ++ composed xs ys

-- ---- a test, turned round

-- leaves a packet as it is
abbrev pub unchanged : Item
unchanged = (no_change, Stay)

-- the packet as it is in a cube, and nothing elsewhere
abbrev pub tested : Cube → List Line
tested cube = line (unchanged ∷ []) cube ∷ (line [] everything ∷ [])

-- the packet as it is where there is nothing, and nothing elsewhere
abbrev pub turned : List Item → List Item
turned [] = unchanged ∷ []
turned (x ∷ xs) = []

-- the lines with their items turned round
abbrev pub negated : List Line → List Line
negated [] = []
negated (x ∷ xs) = line (turned x.results) x.cube ∷ negated xs

-- ---- lists without lines that lie within an earlier one

-- the line's cube lies within that of one of these
abbrev pub is_within_some : List Line → Line → Bool
is_within_some [] y = false
is_within_some (x ∷ xs) y = lies_within_cube y.cube x.cube || is_within_some xs y

-- the list with a line last, unless its cube lies within an earlier one's
abbrev pub add_tight : List Line → Line → List Line
add_tight xs y = if is_within_some xs y then xs else xs ++ y ∷ []

-- the first list with each line of the second last whose cube doesn't lie within an earlier one's
abbrev pub tightened : List Line → List Line → List Line
tightened xs [] = xs
tightened xs (y ∷ ys) = tightened (add_tight xs y) ys
