-- Cubes that hold others.
use Rattle.std.specs.Prelude.{nat_eq, Bool, true, ◌&&◌, Option, Some, None, List, [], ◌∷◌, if◌then◌else◌}
use Rattle.net_types.specs.Cubes.{lies_within_cube, same_port}
use Rattle.net_types.specs.Prefixes.{any_prefix, lies_within}
use Rattle.net_types.specs.declared.cube.Cube.{Cube}
use Rattle.net_types.specs.declared.prefix.Prefix.{Prefix}
use Rattle.classifier.specs.declared.line.Line.{Line}

-- the value that both fields want; any where they differ
abbrev pub common_value : {A : Type 0} → (A → A → Bool) → Option A → Option A → Option A
common_value same (Some x) (Some y) = if same x y then Some x else None
common_value same (Some x) None = None
common_value same None other = None

-- the wider of two prefixes of which one lies within the other; else all addresses
abbrev pub common_prefix : Prefix → Prefix → Prefix
common_prefix p q = if lies_within p q then q else (if lies_within q p then p else any_prefix)

-- a cube that holds both, field by field
abbrev pub hull_cube : Cube → Cube → Cube
hull_cube a b = record {
  inport = common_value same_port a.inport b.inport;
  src = common_prefix a.src b.src;
  dst = common_prefix a.dst b.dst;
  proto = common_value nat_eq a.proto b.proto;
  sport = common_value nat_eq a.sport b.sport;
  dport = common_value nat_eq a.dport b.dport;
}

-- a cube that holds one cube and those of some rules
abbrev pub hull_with : Cube → List Line → Cube
hull_with c [] = c
hull_with c (x ∷ xs) = hull_with (hull_cube c x.cube) xs

-- the cube holds that of each rule
abbrev pub holds_each : Cube → List Line → Bool
holds_each c [] = true
holds_each c (x ∷ xs) = lies_within_cube x.cube c && holds_each c xs
