-- The set of the cubes of a long list of rules.
use Rattle.std.specs.Prelude.{◌≡◌, ◌==◌, nat_eq, nat_lt, Bool, false, ◌&&◌, ◌||◌, List, [], ◌∷◌, length, if◌then◌else◌}
use Rattle.std.specs.Option.{option_eq}
use Rattle.std.specs.HashSet.{HashSet, contains}
use Rattle.std.specs.declared.hash.FoldHasher.{FoldHasher}
use Rattle.std.specs.declared.hash.BuildHasherDefault.{BuildHasherDefault}
use Rattle.net_types.specs.declared.cube.Cube.{Cube}
use Rattle.net_types.specs.declared.prefix.Prefix.{Prefix}
use Rattle.net_types.specs.Cubes.{same_port}
use Rattle.classifier.specs.declared.line.Line.{Line}
use Rattle.classifier.specs.Lines.{same_cube}

-- the cube stands in the list
abbrev pub is_there : List Line → Cube → Bool
is_there [] c = false
is_there (x ∷ xs) c = same_cube x.cube c || is_there xs c

-- the prefixes are equal, field by field
abbrev pub prefix_eq : Prefix → Prefix → Bool
prefix_eq p q = (p.address.0 == q.address.0) && (p.len == q.len)

-- the cubes are equal, field by field
abbrev pub cube_eq : Cube → Cube → Bool
cube_eq a b = option_eq same_port a.inport b.inport && (prefix_eq a.src b.src && (prefix_eq a.dst b.dst && (option_eq nat_eq a.proto b.proto && (option_eq nat_eq a.sport b.sport && option_eq nat_eq a.dport b.dport))))

-- sets of cubes
abbrev pub Cubes : Type 0
Cubes = HashSet Cube (BuildHasherDefault FoldHasher)

-- the set has the cubes of the list
abbrev pub HasAll : List Line → Cubes → Type 0
HasAll xs seen = (c : Cube) → contains cube_eq seen c ≡ is_there xs c

-- the list where it is long: the lines of a short one are looked at one by one
abbrev pub if_many : List Line → List Line
if_many xs = if nat_lt 16 (length xs) then xs else []

-- the set has the cubes of the list where it is long, and none where it is short
pub record Agrees (xs : List Line) (seen : Cubes) : Type 0 where
  pub cubes : HasAll (if_many xs) seen
