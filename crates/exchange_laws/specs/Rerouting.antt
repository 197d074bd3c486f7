-- Lines that change the routes: an UPDATE, a participant whose routes go, and export rules (this exchange's own rule).
use Rattle.std.specs.Prelude.{◌≡◌, ℕ, Bool, true, false, List, Ok, Some, None}
use Rattle.events.specs.After.{after, bound_read, next, running, with_rules, with_update, without_from}
use Rattle.events.specs.Fits.{Fits, bare}
use Rattle.events.specs.Refusals.{refusal}
use Rattle.events.specs.Sound.{IsSound}
use Rattle.events.specs.State.{State}
use Rattle.events.specs.Tags.{retagged}
use Rattle.events.specs.declared.Event.{Event}
use Rattle.events.specs.declared.Event.TheVariants.{Bad, Exchange, Participant as DeclaresParticipant, Port as DeclaresPort, Update, Down, Export, Outbound, Inbound, Take, Drain, Arp, Resolve, Packet, Frame, Recompile, Work, Table}
use Rattle.events.specs.declared.Head.TheVariants.{Fine}
use Rattle.exchange_laws.specs.Retagging.{KeptAreLive, TagsArePooled}
use Rattle.exchange_laws.specs.Unchanged.{OwesFew}
use Rattle.net_types.specs.ExportReading.{rules_of_text}
use Rattle.net_types.specs.Exports.{Routing, pid_of}
use Rattle.net_types.specs.UpdateReading.{decoded}
use Rattle.net_types.specs.declared.address.Pid.{Pid}
use Rattle.net_types.specs.declared.export.ExportRule.{ExportRule}
use Rattle.net_types.specs.declared.update.Update.{Update as Message}

-- the lines that change the routes
abbrev pub is_rerouting : Event → Bool
is_rerouting (Update name bytes) = true
is_rerouting (Down name) = true
is_rerouting (Export name text) = true
is_rerouting Bad = false
is_rerouting (Exchange base size capacity) = false
is_rerouting (DeclaresParticipant name asn id) = false
is_rerouting (DeclaresPort name number ip mac) = false
is_rerouting (Outbound name text) = false
is_rerouting (Inbound name text) = false
is_rerouting (Take name count) = false
is_rerouting (Drain name) = false
is_rerouting (Arp port bytes) = false
is_rerouting (Resolve port) = false
is_rerouting (Packet port bytes) = false
is_rerouting (Frame port bytes) = false
is_rerouting Recompile = false
is_rerouting (Work units) = false
is_rerouting Table = false

-- a line that no refusal stops changes the routes, and these are the routes after it
pub record IsRerouting (s : State) (e : Event) (r : Routing) : Type 0 where
  pub passes : refusal s e ≡ None
  pub building : is_rerouting e ≡ true
  pub leaves : after s e ≡ retagged s r

-- an UPDATE leaves the routes that it says
abbrev pub UpdatesReroute : Type 0
UpdatesReroute =
    (s : State) (name bytes : List ℕ) (who : Pid) (u : Message) → pid_of s.routing name ≡ Some who → decoded bytes ≡ Ok u
    → after s (Update name bytes) ≡ retagged s (with_update s.routing who u)

-- a participant that is down has no routes
abbrev pub DownsReroute : Type 0
DownsReroute = (s : State) (name : List ℕ) (who : Pid) → pid_of s.routing name ≡ Some who → after s (Down name) ≡ retagged s (without_from s.routing who)

-- export rules are those that were read
abbrev pub ExportsReroute : Type 0
ExportsReroute =
    (s : State) (name text : List ℕ) (who : Pid) (rules : List ExportRule) → pid_of s.routing name ≡ Some who
    → bound_read s.routing (rules_of_text text) ≡ Some rules → after s (Export name text) ≡ retagged s (with_rules s.routing who rules)

-- where it leaves the routes as they were, it is accepted without a word
abbrev pub NothingIsRerouted : Type 0
NothingIsRerouted =
    (s : State) (e : Event) → IsSound s → TagsArePooled s → KeptAreLive s → OwesFew s.owed → IsRerouting s e s.routing → (next s e (bare Fine) ≡ running s) × Fits s e (bare Fine)
