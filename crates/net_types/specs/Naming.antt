-- Whom an outbound policy names in its forwards (this exchange's own rule).
use Rattle.std.specs.Prelude.{ℕ, List, [], ◌∷◌, ◌++◌, Option, Some, None}
use Rattle.net_types.specs.Keys.{pid_cmp}
use Rattle.net_types.specs.Maps.{ordered}
use Rattle.net_types.specs.Policies.{Target, Name, Number, Policy, Drop, Pass, Block, Fwd, Match, Set, Both, Then}
use Rattle.net_types.specs.declared.address.Pid.{Pid}

-- the participant, where there is one
abbrev pub known : Option Pid → List Pid
known None = []
known (Some who) = who ∷ []

-- the participant that a target names
abbrev pub target_names : (List ℕ → Option Pid) → Target → List Pid
target_names pid_of (Name name) = known (pid_of name)
target_names pid_of (Number port) = []

-- the participants that the forwards of a policy name, in the order of its text
abbrev pub forwards : (List ℕ → Option Pid) → Policy → List Pid
forwards pid_of Drop = []
forwards pid_of Pass = []
forwards pid_of Block = []
forwards pid_of (Fwd target span) = target_names pid_of target
forwards pid_of (Match p) = []
forwards pid_of (Set set span) = []
forwards pid_of (Both p q) = forwards pid_of p ++ forwards pid_of q
forwards pid_of (Then p q) = forwards pid_of p ++ forwards pid_of q

-- the same ascending, each once: `fwd(C) + fwd(B) >> fwd(C)` names B and C
abbrev pub named_in : (List ℕ → Option Pid) → Policy → List Pid
named_in pid_of p = ordered pid_cmp (forwards pid_of p)
