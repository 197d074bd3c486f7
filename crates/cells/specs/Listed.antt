-- Lists of the cells within a cube.
use Rattle.std.specs.Prelude.{◌≡◌, ◌||◌, ℕ, nat_eq, Bool, true, false, List, [], ◌∷◌, Some}
use Rattle.std.specs.List.{slice_get}
use Rattle.net_types.specs.declared.cube.Cube.{Cube}
use Rattle.net_types.specs.Cubes.{lies_within_cube}
use Rattle.net_types.specs.Sets.{Member}
use Rattle.cells.specs.declared.listed.Listed.{Listed}

-- whether the list has the place
abbrev pub is_listed : List ℕ → ℕ → Bool
is_listed [] p = false
is_listed (q ∷ places) p = nat_eq q p || is_listed places p

-- the list has the place of each cell that is meant and lies within the cube
abbrev pub ListsThese : List Cube → Cube → (ℕ → Type 0) → List ℕ → Type 0
ListsThese cells cube meant places = (p : ℕ) (c : Cube) → meant p → slice_get cells p ≡ Some c → lies_within_cube c cube ≡ true → is_listed places p ≡ true

-- each cell of which it has the place lies within the cube
abbrev pub ListsOnly : List Cube → Cube → List ℕ → Type 0
ListsOnly cells cube places = (p : ℕ) (c : Cube) → is_listed places p ≡ true → slice_get cells p ≡ Some c → lies_within_cube c cube ≡ true

-- it has the place of each cell within the cube, and of no other cell
abbrev pub ListsAll : List Cube → Cube → List ℕ → Type 0
ListsAll cells cube places = (p : ℕ) (c : Cube) → slice_get cells p ≡ Some c → is_listed places p ≡ lies_within_cube c cube

-- what is listed of each cube is the cells within it
abbrev pub AreListed : List Cube → List Listed → Type 0
AreListed cells lists = (l : Listed) → Member l lists → ListsAll cells l.cube l.places.items

-- the number is that of a list of the cells within the cube
abbrev pub IsListed : List Cube → List Listed → Cube → ℕ → Type 0
IsListed cells lists cube n = (l : Listed) × (slice_get lists n ≡ Some l) × ListsAll cells cube l.places.items
