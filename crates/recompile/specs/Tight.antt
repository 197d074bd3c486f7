-- Whether rules lie within a cube (this exchange's own rule).
use Rattle.std.specs.Prelude.{Bool, false, ◌||◌, List, [], ◌∷◌}
use Rattle.net_types.specs.Cubes.{lies_within_cube}
use Rattle.net_types.specs.declared.cube.Cube.{Cube}
use Rattle.net_types.specs.declared.rule.Rule.{Rule}

-- one of the rules' cubes lies within a cube
abbrev pub has_within : Cube → List Rule → Bool
has_within cube [] = false
has_within cube (r ∷ rs) = lies_within_cube r.cube cube || has_within cube rs
