-- Isolation: what a part of a policy may not do, as the exchange's own rule. The faults of a policy stand in the order of its text.
use Rattle.std.specs.Prelude.{◌≡◌, ℕ, ◌==◌, ◌<◌, ◌⊎◌, Option, Some, None, List, [], ◌∷◌, ◌++◌, Result, Ok, Err, if◌then◌else◌}
use Rattle.net_types.specs.declared.address.Pid.{Pid}
use Rattle.net_types.specs.declared.address.PortNo.{PortNo}
use Rattle.net_types.specs.declared.headers.Span.{Span}
use Rattle.net_types.specs.Sets.{Member}
use Rattle.net_types.specs.Policies.{Target, Name, Number, Test, Inport, Src, Dst, Proto, Sport, Dport, Pred, Yes, Is, Not, And, Or, Policy, Drop, Pass, Block, Fwd, Match, Set, Both, Then}
use Rattle.net_types.specs.declared.isolation.Kind.{Kind}
use Rattle.net_types.specs.declared.isolation.Kind.TheVariants.{UnknownName, OwnName, FwdKind, ForeignPort, ModifyOutbound, InportInbound}
use Rattle.net_types.specs.declared.isolation.IsolateFault.{IsolateFault}

-- the one fault of a part that stands there
abbrev pub broken : Kind → Span → List IsolateFault
broken kind span = record { kind = kind; span = span } ∷ []

-- the port is one of the participant
abbrev pub port_faults : Pid → Option Pid → Span → List IsolateFault
port_faults me None span = broken ForeignPort span
port_faults me (Some who) span = if who.0 == me.0 then [] else broken ForeignPort span

-- the name is another participant's
abbrev pub name_faults : Pid → Option Pid → Span → List IsolateFault
name_faults me None span = broken UnknownName span
name_faults me (Some who) span = if who.0 == me.0 then broken OwnName span else []

-- the faults of the tests of a predicate
abbrev pub pred_faults : (Test → Span → List IsolateFault) → Pred → List IsolateFault
pred_faults faults Yes = []
pred_faults faults (Is test span) = faults test span
pred_faults faults (Not p) = pred_faults faults p
pred_faults faults (And p q) = pred_faults faults p ++ pred_faults faults q
pred_faults faults (Or p q) = pred_faults faults p ++ pred_faults faults q

-- an outbound policy tests only ports of its own participant
abbrev pub out_test : (PortNo → Option Pid) → Pid → Test → Span → List IsolateFault
out_test owner_of me (Inport port) span = port_faults me (owner_of port) span
out_test owner_of me (Src prefix) span = []
out_test owner_of me (Dst prefix) span = []
out_test owner_of me (Proto n) span = []
out_test owner_of me (Sport n) span = []
out_test owner_of me (Dport n) span = []

-- an outbound policy sends to other participants
abbrev pub out_target : (List ℕ → Option Pid) → Pid → Target → Span → List IsolateFault
out_target pid_of me (Name name) span = name_faults me (pid_of name) span
out_target pid_of me (Number port) span = broken FwdKind span

-- the faults of an outbound policy, which sets no field
abbrev pub out_faults : (List ℕ → Option Pid) → (PortNo → Option Pid) → Pid → Policy → List IsolateFault
out_faults pid_of owner_of me Drop = []
out_faults pid_of owner_of me Pass = []
out_faults pid_of owner_of me Block = []
out_faults pid_of owner_of me (Fwd target span) = out_target pid_of me target span
out_faults pid_of owner_of me (Match p) = pred_faults (out_test owner_of me) p
out_faults pid_of owner_of me (Set set span) = broken ModifyOutbound span
out_faults pid_of owner_of me (Both p q) = out_faults pid_of owner_of me p ++ out_faults pid_of owner_of me q
out_faults pid_of owner_of me (Then p q) = out_faults pid_of owner_of me p ++ out_faults pid_of owner_of me q

-- an inbound policy doesn't test the port by which a packet came in
abbrev pub in_test : Test → Span → List IsolateFault
in_test (Inport port) span = broken InportInbound span
in_test (Src prefix) span = []
in_test (Dst prefix) span = []
in_test (Proto n) span = []
in_test (Sport n) span = []
in_test (Dport n) span = []

-- an inbound policy sends out of ports of its own participant
abbrev pub in_target : (PortNo → Option Pid) → Pid → Target → Span → List IsolateFault
in_target owner_of me (Name name) span = broken FwdKind span
in_target owner_of me (Number port) span = port_faults me (owner_of port) span

-- the faults of an inbound policy
abbrev pub in_faults : (PortNo → Option Pid) → Pid → Policy → List IsolateFault
in_faults owner_of me Drop = []
in_faults owner_of me Pass = []
in_faults owner_of me Block = []
in_faults owner_of me (Fwd target span) = in_target owner_of me target span
in_faults owner_of me (Match p) = pred_faults in_test p
in_faults owner_of me (Set set span) = []
in_faults owner_of me (Both p q) = in_faults owner_of me p ++ in_faults owner_of me q
in_faults owner_of me (Then p q) = in_faults owner_of me p ++ in_faults owner_of me q

-- a policy without faults passes, and else the first in the text is told
abbrev pub first_of : List IsolateFault → Result (Unit {0}) IsolateFault
first_of [] = Ok tt
first_of (fault ∷ faults) = Err fault

-- it is one of the faults, and each other one begins further on in the text
pub record IsFirstInText (fault : IsolateFault) (faults : List IsolateFault) : Type 0 where
  pub one : Member fault faults
  pub first : (other : IsolateFault) → Member other faults → (other ≡ fault) ⊎ (fault.span.start < other.span.start)
