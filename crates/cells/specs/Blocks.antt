-- Blocks of 64 cells.
use Rattle.std.specs.Prelude.{◌≡◌, ◌/◌, ℕ, true, List, [], ◌∷◌, Some}
use Rattle.std.specs.List.{slice_get}
use Rattle.net_types.specs.declared.cube.Cube.{Cube}
use Rattle.net_types.specs.Cubes.{everything, lies_within_cube}
use Rattle.net_types.specs.Sets.{Member}
use Rattle.place_sets.specs.Places.{has_place}
use Rattle.cells.specs.declared.inside.Inner.{Inner}

-- the set has the block of each cell that lies within the cube
abbrev pub HasInner : List Cube → Cube → List ℕ → Type 0
HasInner cells cube blocks = (p : ℕ) (c : Cube) → slice_get cells p ≡ Some c → lies_within_cube c cube ≡ true → has_place blocks (p / 64) ≡ true

-- what is known of each cube is the blocks of the cells within it
abbrev pub KnowInner : List Cube → List Inner → Type 0
KnowInner cells known = (i : Inner) → Member i known → HasInner cells i.cube i.blocks

-- the number is that of what is known of the cube
abbrev pub IsInner : List Cube → List Inner → Cube → ℕ → Type 0
IsInner cells known cube n = (i : Inner) × (slice_get known n ≡ Some i) × HasInner cells cube i.blocks

-- of the blocks those stay that have a cell within the cube
abbrev pub KeepsInner : List Cube → Cube → List ℕ → List ℕ → Type 0
KeepsInner cells cube old new = (p : ℕ) (c : Cube) → slice_get cells p ≡ Some c → lies_within_cube c cube ≡ true → has_place old (p / 64) ≡ true → has_place new (p / 64) ≡ true

-- the cubes of the headers that have one of the fields, each
abbrev pub single_fields : Cube → List Cube
single_fields c =
    record everything { inport = c.inport } ∷ record everything { src = c.src } ∷ record everything { dst = c.dst }
    ∷ record everything { proto = c.proto } ∷ record everything { sport = c.sport } ∷ record everything { dport = c.dport } ∷ []
