use Rattle.std.proofs.Common.{ap, subst, sym, ◌∙◌}
use Rattle.std.specs.Prelude.{None}
use Rattle.events.specs.Fits.{IsStep}
use Rattle.events.specs.State.{State}
use Rattle.events.specs.declared.Event.TheVariants.{Work}
use Rattle.recompile.specs.Setting.{setting}
use Rattle.sdx_core.proofs.Jobs.{ended_step, ready_enough}
use Rattle.sdx_core.specs.View.{IsKept, with_job}
use Rattle.sdx_core.proofs.sdx.Sdx.work.Goals as goal

pub returns-in-Ok-clause-step : goal.returns-in-Ok-clause-step
returns-in-Ok-clause-step g c =
    let a = c.self.inside in
    let s : State = a.core in
    subst (λ (x : State). IsStep x (Work c.args.units) c.in-Ok.reply (with_job c.finish.new.self None)) (ap (with_job s) (sym c.in-Some.is) ∙ c.self.view_is)
    (ended_step s c.finish.new.self c.in-Some.job c.args.units c.in-Ok.reply c.is_steady.ensures c.is_steady-in-Ok.ensures (subst (IsKept s) c.in-Some.is c.self.invariant)
    (sym c.is_placed.ensures ∙ c.if-not-is_placed.false) (ready_enough (setting c.classes.result.now c.switch.result.now.table) c.args.units c.in-Some.job c.work.new.self c.in_ok-left.field-0 c.in-Ready.swap c.in-Ready.is c.in_ok-left.ensures.progress) c.in-Ok.ensures.step)
