-- What policies make of results.
use Rattle.std.specs.Prelude.{◌≡◌, ℕ, Option, Some, List, []}
use Rattle.std.specs.List.{slice_get}
use Rattle.net_types.specs.declared.address.Pid.{Pid}
use Rattle.net_types.specs.declared.cube.Cube.{Cube}
use Rattle.net_types.specs.declared.headers.Loc.{Loc}
use Rattle.net_types.specs.Policies.{Policy}
use Rattle.net_types.specs.Sets.{union_over}
use Rattle.classifier.specs.Items.{Item}
use Rattle.policy_compile.specs.declared.groups.Groups.{Groups}
use Rattle.policy_compile.specs.Columns.{given}
use Rattle.policy_compile.specs.Groups.{ways_of}
use Rattle.policy_compile.specs.Paths.{AreVisits}

-- the results that are given at a place
abbrev pub given_by : List Loc → Groups → ℕ → List Item
given_by locations g k = union_over (ways_of locations g.ways.sets.items) (given g.columns.sets.sets.items g.columns.columns.items k)

-- at each place stands what the policy makes in the cube of what was there
abbrev pub AreMade : (List ℕ → Option Pid) → Policy → List Loc → List Cube → Groups → Groups → Type 0
AreMade pid_of p locations cubes old new = (k : ℕ) (m : Cube) → slice_get cubes k ≡ Some m → AreVisits pid_of p m (given_by locations old k) [] (given_by locations new k)
