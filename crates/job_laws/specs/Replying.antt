-- Each line has a reply that fits, with a job as without one (this exchange's own rule).
use Rattle.std.specs.Prelude.{List, ◌++◌}
use Rattle.events.specs.Fits.{Fits}
use Rattle.events.specs.Forms.{IsWellFormed}
use Rattle.events.specs.Legal.{Legal}
use Rattle.events.specs.State.{State}
use Rattle.events.specs.declared.Event.{Event}
use Rattle.events.specs.declared.Reply.{Reply}
use Rattle.job_laws.specs.Jobs.{IsSteadyInJob}
use Rattle.net_types.specs.Sets.{Member}
use Rattle.reply_laws.specs.Replying.{HasOctets, PortsHaveMacs}

-- in a steady state in which a job may run some reply to each line that can be written fits
abbrev pub AllLinesHaveReplies : Type 0
AllLinesHaveReplies = (s : State) (e : Event) → IsSteadyInJob s → PortsHaveMacs s → IsWellFormed e → HasOctets e → (r : Reply) × Fits s e r

-- so legal replies to the first lines of a run go on
abbrev pub AllRunsGoOn : Type 0
AllRunsGoOn =
    (es fs : List Event) (rs : List Reply) → ((e : Event) → Member e (es ++ fs) → IsWellFormed e × HasOctets e) → Legal es rs
    → (more : List Reply) × Legal (es ++ fs) (rs ++ more)
