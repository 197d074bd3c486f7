-- What the classifiers of all participants are seen as, in order of declaration.
use Rattle.std.specs.Prelude.{◌<◌, List, [], length, slice_get}
use Rattle.std.specs.Option.{option_map_or}
use Rattle.classifier.specs.Classifiers.{lines_of}
use Rattle.classifier.specs.Meaning as lines
use Rattle.classifier.specs.declared.line.Line.{Line}
use Rattle.net_types.specs.Answers.{Policies, policy_of}
use Rattle.net_types.specs.Meets.{IsMeet}
use Rattle.net_types.specs.Policies.{atoms, den}
use Rattle.net_types.specs.Sets.{Member, SameMembers}
use Rattle.net_types.specs.declared.address.Pid.{Pid}
use Rattle.net_types.specs.declared.cube.Cube.{Cube}
use Rattle.net_types.specs.declared.headers.Headers.{Headers}
use Rattle.net_types.specs.declared.headers.Loc.TheVariants.{Stay}
use Rattle.block_build.specs.declared.views.Both.{Both}

-- the rules of a participant's two classifiers
pub record Lent : Type 0 where
  pub outbound : List Line
  pub inbound : List Line

-- the same of the classifiers
abbrev pub lent : Both → Lent
lent b = record { outbound = lines_of b.outbound.now; inbound = lines_of b.inbound.now }

-- the rules of a participant as a sender
abbrev pub outbound_at : List Lent → Pid → List Line
outbound_at all who = option_map_or (λ (l : Lent). l.outbound) (slice_get all who.0) []

-- the rules of a participant as a receiver
abbrev pub inbound_at : List Lent → Pid → List Line
inbound_at all who = option_map_or (λ (l : Lent). l.inbound) (slice_get all who.0) []

-- The rules of each participant's classifiers do what its policies do, and their cubes are meets of the policies' atoms.
pub record AreOf (ps : Policies) (all : List Lent) : Type 0 where
  pub sends : (who : Pid) → who.0 < length all → (h : Headers) → SameMembers (lines.meaning (outbound_at all who) h Stay) (den ps.named (policy_of ps.outbound who) h Stay)
  pub sender_cubes : (who : Pid) → who.0 < length all → (c : Cube) → Member c (lines.cubes_of (outbound_at all who)) → IsMeet (atoms (policy_of ps.outbound who)) c
  pub receives : (who : Pid) → who.0 < length all → (h : Headers) → SameMembers (lines.meaning (inbound_at all who) h Stay) (den ps.named (policy_of ps.inbound who) h Stay)
  pub receiver_cubes : (who : Pid) → who.0 < length all → (c : Cube) → Member c (lines.cubes_of (inbound_at all who)) → IsMeet (atoms (policy_of ps.inbound who)) c
