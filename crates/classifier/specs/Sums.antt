-- What several classifiers give together.
use Rattle.std.specs.Prelude.{List}
use Rattle.net_types.specs.declared.cube.Cube.{Cube}
use Rattle.net_types.specs.declared.headers.Headers.{Headers}
use Rattle.net_types.specs.declared.headers.Loc.{Loc}
use Rattle.net_types.specs.declared.headers.Assign.{Assign}
use Rattle.net_types.specs.Meets.{IsMeet}
use Rattle.net_types.specs.Sets.{Member, SameMembers, union_over}
use Rattle.classifier.specs.declared.classifier.Classifier.{Classifier}
use Rattle.classifier.specs.Classifiers.{meaning, cubes_of, assigns_of}

-- the classifier gives what any of the parts gives; its cubes are meets of theirs, its assignments are theirs
pub record IsSum (parts : List Classifier) (c : Classifier) : Type 0 where
  pub union : (h : Headers) (l : Loc) → SameMembers (meaning c h l) (union_over (λ (a : Classifier). meaning a h l) parts)
  pub cubes : (x : Cube) → Member x (cubes_of c) → IsMeet (union_over cubes_of parts) x
  pub assigns : (m : Assign) → Member m (assigns_of c) → Member m (union_over assigns_of parts)
