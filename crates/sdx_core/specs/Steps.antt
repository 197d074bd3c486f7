-- How many steps a line takes at most: one for each pair whose rules it builds, whether or not a job runs, or one for each unit
-- that a job does (this exchange's own rule).
use Rattle.std.specs.Prelude.{ℕ, min, unwrap_or}
use Rattle.events.specs.State.{State}
use Rattle.events.specs.declared.Event.{Event}
use Rattle.events.specs.declared.Event.TheVariants.{Bad, Exchange, Participant as DeclaresParticipant, Port as DeclaresPort, Update, Down, Export, Outbound, Inbound, Take, Drain, Arp, Resolve, Packet, Frame, Recompile, Work, Table}
use Rattle.exchange_core.specs.Steps as core
use Rattle.job_laws.specs.Jobs.{without_job}

-- how many steps a line takes at most
abbrev pub step_bound : State → Event → ℕ
step_bound s (Work units) = min units (unwrap_or s.owed 0)
step_bound s Recompile = 0
step_bound s Bad = core.step_bound (without_job s) Bad
step_bound s (Exchange base size capacity) = core.step_bound (without_job s) (Exchange base size capacity)
step_bound s (DeclaresParticipant name asn id) = core.step_bound (without_job s) (DeclaresParticipant name asn id)
step_bound s (DeclaresPort name number ip mac) = core.step_bound (without_job s) (DeclaresPort name number ip mac)
step_bound s (Update name bytes) = core.step_bound (without_job s) (Update name bytes)
step_bound s (Down name) = core.step_bound (without_job s) (Down name)
step_bound s (Export name text) = core.step_bound (without_job s) (Export name text)
step_bound s (Outbound name text) = core.step_bound (without_job s) (Outbound name text)
step_bound s (Inbound name text) = core.step_bound (without_job s) (Inbound name text)
step_bound s (Take name count) = core.step_bound (without_job s) (Take name count)
step_bound s (Drain name) = core.step_bound (without_job s) (Drain name)
step_bound s (Arp port bytes) = core.step_bound (without_job s) (Arp port bytes)
step_bound s (Resolve port) = core.step_bound (without_job s) (Resolve port)
step_bound s (Packet port bytes) = core.step_bound (without_job s) (Packet port bytes)
step_bound s (Frame port bytes) = core.step_bound (without_job s) (Frame port bytes)
step_bound s Table = core.step_bound (without_job s) Table
