-- Sets of cubes that are counted apart, since their meets need not be among those of a larger set.
use Rattle.std.specs.Prelude.{◌≡◌, ◌<◌, ◌⊎◌, List, [], ◌∷◌, length}
use Rattle.std.specs.HashSet.{HashSet}
use Rattle.net_types.specs.Meets.{meets}
use Rattle.net_types.specs.declared.cube.Cube.{Cube}
use Rattle.net_types.specs.Sets.{Member, SameMembers}
use Rattle.net_types.specs.Policies.{Policy, atoms}
use Rattle.net_types.specs.Widths.{parts, HasManyMeets}
use Rattle.policy_compile.specs.Narrow.{HasWideMeets}

-- one of the sets has too many meets
abbrev pub SomeIsMany : {S : Type 0} → List (HashSet Cube S) → Type 0
SomeIsMany [] = ⊥
SomeIsMany (set ∷ sets) = (65536 < length (meets set.keys)) ⊎ SomeIsMany sets

-- the cube is in each of the sets
abbrev pub EachHas : {S : Type 0} → Cube → List (HashSet Cube S) → Type 0
EachHas c [] = Unit {0}
EachHas c (set ∷ sets) = Member c set.keys × EachHas c sets

-- these are the meets of cubes that are in each of the sets
pub record IsShared {S : Type 0} (kept : List Cube) (sets : List (HashSet Cube S)) : Type 0 where
  pub cubes : List Cube
  pub is : kept ≡ meets cubes
  pub inside : (c : Cube) → Member c cubes → EachHas c sets

-- these are the cubes of the first set that are in each of the others
pub record IsCommon {S : Type 0} (first : List Cube) (others : List (HashSet Cube S)) (common : List Cube) : Type 0 where
  pub onto : (c : Cube) → Member c common → Member c first × EachHas c others
  pub back : (c : Cube) → Member c first → EachHas c others → Member c common

-- the part is among the sets afterwards, unless it has too many meets only where the whole has
pub record IsNoted {S : Type 0} (whole part : List Cube) (old new : List (HashSet Cube S)) : Type 0 where
  pub keeps : SomeIsMany old → SomeIsMany new
  pub sound : SomeIsMany new → SomeIsMany old ⊎ (65536 < length (meets part))
  pub held : 65536 < length (meets part) → (65536 < length (meets whole)) ⊎ SomeIsMany new

-- these are the policy's atoms, and a part has too many meets only where the whole has or one of the sets
pub record IsNarrowed {S : Type 0} (p : Policy) (old new : List (HashSet Cube S)) (cubes : List Cube) : Type 0 where
  pub same : SameMembers cubes (atoms p)
  pub keeps : SomeIsMany old → SomeIsMany new
  pub sound : SomeIsMany new → SomeIsMany old ⊎ HasWideMeets p
  pub decides : (q : Policy) → Member q (parts p) → HasManyMeets q → HasManyMeets p ⊎ SomeIsMany new
