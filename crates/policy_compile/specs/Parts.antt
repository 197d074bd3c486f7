-- Classifiers of the parts of a sum.
use Rattle.std.specs.Prelude.{◌≡◌, ℕ, Option, List, [], ◌∷◌, if◌then◌else◌}
use Rattle.net_types.specs.declared.address.Pid.{Pid}
use Rattle.net_types.specs.declared.cube.Cube.{Cube}
use Rattle.net_types.specs.declared.headers.Headers.{Headers}
use Rattle.net_types.specs.declared.headers.Loc.{Loc}
use Rattle.net_types.specs.declared.headers.Assign.{Assign}
use Rattle.net_types.specs.Headers.{no_change}
use Rattle.net_types.specs.Meets.{IsMeet}
use Rattle.net_types.specs.Sets.{Member, SameMembers, union_over}
use Rattle.net_types.specs.Policies.{Pred, Policy, holds, den, mods, pred_atoms, atoms}
use Rattle.classifier.specs.declared.classifier.Classifier.{Classifier}
use Rattle.classifier.specs.Classifiers.{meaning, cubes_of, assigns_of}

-- together the classifiers do what the policy does
pub record AreParts (pid_of : List ℕ → Option Pid) (p : Policy) (parts : List Classifier) : Type 0 where
  pub means : (h : Headers) (l : Loc) → SameMembers (union_over (λ (a : Classifier). meaning a h l) parts) (den pid_of p h l)
  pub cubes : (x : Cube) → Member x (union_over cubes_of parts) → IsMeet (atoms p) x
  pub assigns : (m : Assign) → Member m (union_over assigns_of parts) → Member m (mods p)

-- one of the classifiers keeps a packet as it is where the predicate holds, and none does elsewhere
pub record AreFilters (p : Pred) (parts : List Classifier) : Type 0 where
  pub means : (h : Headers) (l : Loc) → SameMembers (union_over (λ (a : Classifier). meaning a h l) parts) (if holds p h then (h, l) ∷ [] else [])
  pub cubes : (x : Cube) → Member x (union_over cubes_of parts) → IsMeet (pred_atoms p) x
  pub assigns : (m : Assign) → Member m (union_over assigns_of parts) → m ≡ no_change
