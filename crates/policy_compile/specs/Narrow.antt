-- What is known of a policy's parts once its assignments and atoms were gone through.
use Rattle.std.specs.Prelude.{Option, MatchOption, List}
use Rattle.std.specs.HashSet.{HashSet}
use Rattle.net_types.specs.declared.headers.Assign.{Assign}
use Rattle.net_types.specs.Sets.{Member, SameMembers}
use Rattle.net_types.specs.Policies.{Policy, mods}
use Rattle.policy_compile.specs.declared.fields.Fields.{Fields}
use Rattle.policy_compile.specs.Sets.{assigns_of}
use Rattle.net_types.specs.Widths.{HasMoreThan, parts, HasManyMeets, HasManyMods}

-- these are the policy's assignments, and no part has too many
pub record HasFewMods (p : Policy) (sets : List Assign) : Type 0 where
  pub same : SameMembers sets (mods p)
  pub few : (q : Policy) → Member q (parts p) → HasManyMods q → ⊥

-- some part has too many assignments
pub record HasWideMods (p : Policy) : Type 0 where
  pub part : Policy
  pub stands : Member part (parts p)
  pub many : HasManyMods part

-- some part has too many meets
pub record HasWideMeets (p : Policy) : Type 0 where
  pub part : Policy
  pub stands : Member part (parts p)
  pub many : HasManyMeets part

-- these are the members of a list, and no more than 1024 different ones
pub record IsFew (sets all : List Assign) : Type 0 where
  pub same : SameMembers sets all
  pub few : HasMoreThan 1024 all → ⊥

-- the members of a list, none exactly where there are too many
abbrev pub IsFewOf : {S : Type 0} → List Assign → Option (HashSet Fields S) → Type 0
IsFewOf all found = MatchOption found (HasMoreThan 1024 all) (λ s. IsFew (assigns_of s.keys) all)

-- the assignments of a policy, none exactly where some part has too many
abbrev pub IsModsOf : {S : Type 0} → Policy → Option (HashSet Fields S) → Type 0
IsModsOf p found = MatchOption found (HasWideMods p) (λ s. HasFewMods p (assigns_of s.keys))
