-- What inbound policies that passed isolation let leave: by ports of their own participants alone.
use Rattle.std.proofs.Common.{◌≡◌, ℕ, Bool, true, List, [], ap, ◌∙◌, inl, inr}
use Rattle.std.specs.Prelude.{Option, Some}
use Rattle.net_types.proofs.SetLemmas.{union-Member}
use Rattle.net_types.specs.Answers.{Leaving, Policies, answer_by, policy_of, received, received_at, sent}
use Rattle.net_types.specs.Isolation.{in_faults}
use Rattle.net_types.specs.Policies.{Policy}
use Rattle.net_types.specs.Sets.{Member}
use Rattle.net_types.specs.declared.address.Pid.{Pid}
use Rattle.net_types.specs.declared.address.PortNo.{PortNo}
use Rattle.net_types.specs.declared.headers.Headers.{Headers}
use Rattle.net_types.specs.declared.headers.Loc.{Loc}
use Rattle.net_types.specs.declared.headers.Loc.TheVariants.{Stay, To, Out, Nowhere}
use Rattle.exchange_laws.proofs.OwnPorts.{leaves_by_own}
use Rattle.exchange_laws.proofs.Parts.{sent_to_exporters}

-- what a receiver lets leave leaves by its own ports, where the port of the NEXT_HOP is its own
received_own : (names : List ℕ → Option Pid) (owner_of : PortNo → Option Pid) (me : Pid) (p : Policy) → in_faults owner_of me p ≡ [] → (port : PortNo) → owner_of port ≡ Some me → (h : Headers) (l : Leaving) → Member l (received names p port h) → owner_of l.port ≡ Some me
received_own names owner_of me p free port mine h l m = elim (leaves_by_own owner_of me names p port h l free m) [ inl same ↦ ap owner_of same ∙ mine | inr own ↦ own ]

-- an exporter whose own port it is
pub record IsExportersPort (owner_of : PortNo → Option Pid) (exporter : Pid → Bool) (port : PortNo) : Type 0 where
  pub who : Pid
  pub exports : exporter who ≡ true
  pub owns : owner_of port ≡ Some who

-- where all inbound policies passed isolation, what leaves leaves by ports of exporters
pub answer_own : (ps : Policies) (owner_of : PortNo → Option Pid) (sender : Pid) (exporter hole : Pid → Bool) (chosen : Pid) (port : Pid → PortNo) (h : Headers) → exporter chosen ≡ true
    → ((who : Pid) → in_faults owner_of who (policy_of ps.inbound who) ≡ []) → ((who : Pid) → exporter who ≡ true → owner_of (port who) ≡ Some who)
    → (l : Leaving) → Member l (answer_by ps sender exporter hole chosen port h) → IsExportersPort owner_of exporter l.port
answer_own ps owner_of sender exporter hole chosen port h is passed own l m =
    let from = union-Member (received_at ps port h) (sent ps.named (policy_of ps.outbound sender) exporter hole chosen h) l m in
    by from.of from.stands from.gives
  where
    by : (at : Loc) → Member at (sent ps.named (policy_of ps.outbound sender) exporter hole chosen h) → Member l (received_at ps port h at) → IsExportersPort owner_of exporter l.port
    by (To who) there m =
        let ok : exporter who ≡ true = sent_to_exporters exporter hole chosen who ps.named (policy_of ps.outbound sender) h is there in
        record { who = who; exports = ok; owns = received_own ps.named owner_of who (policy_of ps.inbound who) (passed who) (port who) (own who ok) h l m }
    by Stay there none = absurd none
    by Nowhere there none = absurd none
    by (Out n) there none = absurd none
