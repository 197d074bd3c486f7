-- Lines that change neither the routes nor what was told (this exchange's own rule).
use Rattle.std.specs.Prelude.{◌≡◌, Bool, true, false, None}
use Rattle.events.specs.After.{after, next}
use Rattle.events.specs.Forms.{IsWellFormed}
use Rattle.events.specs.Fits.{Fits, IsAnswer, is_of_job}
use Rattle.events.specs.Refusals.{refusal}
use Rattle.events.specs.State.{State}
use Rattle.events.specs.declared.Event.{Event}
use Rattle.events.specs.declared.Event.TheVariants.{Bad, Exchange, Participant as DeclaresParticipant, Port as DeclaresPort, Update, Down, Export, Outbound, Inbound, Take, Drain, Arp, Resolve, Packet, Frame, Recompile, Work, Table}
use Rattle.events.specs.declared.Reply.{Reply}
use Rattle.exchange_laws.specs.Steady.{IsSteady}

-- a line that builds no rules, by which nobody takes what is pending, and no job ends
abbrev pub is_quiet : Event → Bool
is_quiet Bad = true
is_quiet (Exchange base size capacity) = true
is_quiet (DeclaresParticipant name asn id) = true
is_quiet (DeclaresPort name number ip mac) = true
is_quiet (Update name bytes) = false
is_quiet (Down name) = false
is_quiet (Export name text) = false
is_quiet (Outbound name text) = false
is_quiet (Inbound name text) = false
is_quiet (Take name count) = false
is_quiet (Drain name) = false
is_quiet (Arp port bytes) = true
is_quiet (Resolve port) = true
is_quiet (Packet port bytes) = true
is_quiet (Frame port bytes) = true
is_quiet Recompile = true
is_quiet (Work units) = false
is_quiet Table = true

-- such a line that isn't a job's is accepted with its answer, and the table stays as it was
abbrev pub QuietLinesAreAccepted : Type 0
QuietLinesAreAccepted =
    (s : State) (e : Event) (reply : Reply) → IsSteady s → IsWellFormed e → is_of_job e ≡ false → refusal s e ≡ None → is_quiet e ≡ true → IsAnswer s e reply (next s e reply)
    → (next s e reply ≡ after s e) × Fits s e reply
