-- Rules that a receiver's don't cut: where they have headers in common, these are those of one of the rules.
use Rattle.std.specs.Prelude.{◌≡◌, ◌⊎◌, Option, Some, None, List, [], ◌∷◌, if◌then◌else◌}
use Rattle.classifier.specs.Meaning.{cubes_of}
use Rattle.classifier.specs.declared.line.Line.{Line}
use Rattle.net_types.specs.Cubes.{lies_within_cube, meet_cubes}
use Rattle.net_types.specs.Sets.{Member}
use Rattle.net_types.specs.declared.cube.Cube.{Cube}

-- the first rule whose cube holds this one
abbrev pub first_holding : Cube → List Line → Option Line
first_holding c [] = None
first_holding c (y ∷ ys) = if lies_within_cube c y.cube then Some y else first_holding c ys

-- the headers that a cube and a tested one have in common are those of a rule, or all that the cube has
abbrev pub IsThere : List Line → Cube → Cube → Type 0
IsThere xs c test = (m : Cube) → meet_cubes c test ≡ Some m → Member m (cubes_of xs) ⊎ (m ≡ c)

-- so with each of the tested cubes
abbrev pub AreThere : List Line → Cube → List Cube → Type 0
AreThere xs c tests = (test : Cube) → Member test tests → IsThere xs c test

-- what a rule's cube and a tested one have in common is the cube of a rule
abbrev pub AreClosed : List Cube → List Line → Type 0
AreClosed tests xs = (c test m : Cube) → Member c (cubes_of xs) → Member test tests → meet_cubes c test ≡ Some m → Member m (cubes_of xs)

-- each cube of one list stands in the other
abbrev pub AreKept : List Cube → List Cube → Type 0
AreKept cs ds = (c : Cube) → Member c cs → Member c ds
