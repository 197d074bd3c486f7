use Rattle.std.proofs.Common.{◌≡◌, ◌≤◌, ◌+◌, ap, subst, sym, ◌∙◌}
use Rattle.std.specs.Prelude.{IfOk, OnErr}
use Rattle.events.specs.Fits.{IsStep}
use Rattle.events.specs.State.{State}
use Rattle.sdx_core.proofs.Jobs.{kept_by, line_bound, same_by, step_by}
use Rattle.sdx_core.specs.Steps.{step_bound}
use Rattle.sdx_core.specs.View.{with_job}
use Rattle.sdx_core.proofs.sdx.Sdx.line.Goals as goal

pub invariant_of-self : goal.invariant_of-self
invariant_of-self g c =
    let a = c.self.inside in
    kept_by a.core c.step.new.self a.job c.step.new.job c.args.event.now c.jobs_leave_lines.ensures c.all_steps_stay_steady.ensures c.is_steady.ensures c.self.invariant c.requires.formed c.requires.line
    c.step.result c.step.ensures.step c.step.ensures.unchanged c.step.ensures.job c.step.ensures.job_unchanged

pub returns-clause-step : goal.returns-clause-step
returns-clause-step g c =
    let a = c.self.inside in
    subst (λ (x : State). IfOk c.step.result (λ reply. IsStep x c.args.event.now reply (with_job c.step.new.self c.step.new.job))) c.self.view_is
    (step_by a.core c.step.new.self a.job c.step.new.job c.args.event.now c.jobs_leave_lines.ensures c.all_steps_stay_steady.ensures c.is_steady.ensures c.self.invariant c.requires.formed c.requires.line
    c.step.result c.step.ensures.step c.step.ensures.job)

pub returns-clause-unchanged : goal.returns-clause-unchanged
returns-clause-unchanged g c =
    let a = c.self.inside in
    subst (λ (x : State). OnErr c.step.result (with_job c.step.new.self c.step.new.job ≡ x)) c.self.view_is
    (same_by a.core c.step.new.self a.job c.step.new.job c.step.result c.step.ensures.unchanged c.step.ensures.job_unchanged)

pub returns-clause-steps : goal.returns-clause-steps
returns-clause-steps g c =
    let a = c.self.inside in
    subst (λ n. c.step.new.steps ≤ c.args.steps.now + n) (sym (line_bound a.core a.job c.args.event.now c.is_steady.ensures c.requires.line) ∙ ap (λ (x : State). step_bound x c.args.event.now) c.self.view_is) c.step.ensures.steps
