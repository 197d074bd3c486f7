-- The locations that a policy has.
use Rattle.std.specs.Prelude.{◌≡◌, ℕ, List, Option, Some, IfSome}
use Rattle.std.specs.List.{slice_get}
use Rattle.net_types.specs.declared.address.Pid.{Pid}
use Rattle.net_types.specs.declared.headers.Loc.{Loc}
use Rattle.net_types.specs.declared.headers.Loc.TheVariants.{To, Out, Nowhere}
use Rattle.net_types.specs.Sets.{Member}
use Rattle.net_types.specs.Policies.{Target, Name, Number, Policy, Drop, Pass, Block, Fwd, Match, Set, Both, Then}

-- where a target sends a packet is one of the locations
abbrev pub IsCovered : (List ℕ → Option Pid) → Target → List Loc → Type 0
IsCovered pid_of (Name n) locations = IfSome (pid_of n) (λ (who : Pid). Member (To who) locations)
IsCovered pid_of (Number port) locations = Member (Out port) locations

-- where any part of the policy sends a packet is one of the locations
abbrev pub Covers : (List ℕ → Option Pid) → Policy → List Loc → Type 0
Covers pid_of Drop locations = Unit {0}
Covers pid_of Pass locations = Unit {0}
Covers pid_of Block locations = Member Nowhere locations
Covers pid_of (Fwd target span) locations = IsCovered pid_of target locations
Covers pid_of (Match p) locations = Unit {0}
Covers pid_of (Set a span) locations = Unit {0}
Covers pid_of (Both p q) locations = Covers pid_of p locations × Covers pid_of q locations
Covers pid_of (Then p q) locations = Covers pid_of p locations × Covers pid_of q locations

-- the locations of the first stand at the same places in the second
abbrev pub KeepAll : List Loc → List Loc → Type 0
KeepAll old new = (n : ℕ) (l : Loc) → slice_get old n ≡ Some l → slice_get new n ≡ Some l
