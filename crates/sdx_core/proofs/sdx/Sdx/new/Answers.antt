use Rattle.std.proofs.Common.{ap}
use Rattle.std.specs.Prelude.{None}
use Rattle.events.specs.State.{State}
use Rattle.sdx_core.proofs.Jobs.{ended_kept}
use Rattle.sdx_core.specs.View.{with_job}
use Rattle.sdx_core.proofs.sdx.Sdx.new.Goals as goal

pub invariant_of-result : goal.invariant_of-result
invariant_of-result c = ended_kept c.new.result

pub returns : goal.returns
returns c = ap (λ (x : State). with_job x None) c.new.ensures
