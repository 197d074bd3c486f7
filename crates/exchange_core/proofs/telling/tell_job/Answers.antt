use Rattle.std.proofs.Common.{ap, length, subst, sym, ◌∙◌}
use Rattle.std.specs.Prelude.{OnOk, Some}
use Rattle.std.proofs.lemmas.Result.{on_err_weaker, on_ok_weaker}
use Rattle.exchange_core.specs.Jobs.{IsTold}
use Rattle.exchange_core.proofs.Told.{told_changes, told_policy}
use Rattle.exchange_core.proofs.telling.tell_job.Goals as goal

pub returns-in-Stay-clause-told : goal.returns-in-Stay-clause-told
returns-in-Stay-clause-told c =
    subst (λ o. OnOk c.tell_changes.result (IsTold (length c.args.names.now.ports) c.args.classes.now.tag c.args.switch.now.table c.args.change.now c.args.plan.now o (Some c.tell_changes.new.job))) (sym c.in-Some.is)
    (on_ok_weaker c.tell_changes.result
    (told_changes (length c.args.names.now.ports) c.args.classes.now.tag c.args.switch.now.table c.args.change.now c.args.plan.now c.in-Some.job c.tell_changes.new.job c.in-Stay.is) c.tell_changes.ensures.told)

pub returns : goal.returns
returns c = record {
  told = subst (λ o. OnOk c.tell_policy.result (IsTold (length c.args.names.now.ports) c.args.classes.now.tag c.args.switch.now.table c.args.change.now c.args.plan.now o (Some c.tell_policy.new.job))) (sym c.in-Some.is)
      (on_ok_weaker c.tell_policy.result
      (told_policy (length c.args.names.now.ports) c.args.classes.now.tag c.args.switch.now.table c.args.change.now c.args.plan.now c.in-Some.job c.tell_policy.new.job c.in_default-change.not-Stay) c.tell_policy.ensures.told);
  unchanged = on_err_weaker c.tell_policy.result (λ same. ap Some same ∙ sym c.in-Some.is) c.tell_policy.ensures.unchanged;
}
