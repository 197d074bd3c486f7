-- Of each cell the first of some cubes that it lies within, kept.
use Rattle.std.specs.Prelude.{◌≡◌, ℕ, List, Some}
use Rattle.std.specs.List.{slice_get}
use Rattle.cells.specs.Firsts.{firsts}
use Rattle.net_types.specs.Sets.{Member}
use Rattle.net_types.specs.declared.cube.Cube.{Cube}
use Rattle.block_build.specs.declared.tables.Table.{Table}

-- the table tells of each cell the first of its cubes that it lies within
abbrev pub IsTable : List Cube → Table → Type 0
IsTable cells t = t.firsts.value.items ≡ firsts t.cubes.items cells

-- each of the tables does
abbrev pub AreTables : List Cube → List Table → Type 0
AreTables cells tables = (t : Table) → Member t tables → IsTable cells t

-- the table with the number is that of these cubes
abbrev pub IsAt : List Table → List Cube → ℕ → Type 0
IsAt tables cubes n = (t : Table) × (slice_get tables n ≡ Some t) × (t.cubes.items ≡ cubes)
