use Rattle.std.proofs.Common.{◌≡◌, ℕ, ◌+◌, ◌-◌, ◌^◌, ◌≤◌, true, sym, subst, ◌∙◌, arith}
use Rattle.std.specs.Prelude.{Result, Err, IfErr, min}
use Rattle.std.proofs.lemmas.Bool.{false≢true}
use Rattle.replay_run.specs.Causes.{FaultRose}
use Rattle.replay_run.specs.Memory.{fails_now}
use Rattle.replay_run.specs.declared.outside.SinkFault.{SinkFault}
use Rattle.replay_run.specs.declared.outside.SinkFault.TheVariants.{Failed}
use Rattle.replay_run.proofs.memory.SinkOfSink.write.Goals as goal

-- a sink whose count stands still at 0 doesn't fail
no_fault : (r : Result ℕ SinkFault) → IfErr r (FaultRose 0 0) → r ≡ Err Failed → ⊥
no_fault r h e =
    let risen : min (0 + 1) (2 ^ 64 - 1) ≤ 0 = subst (λ x. IfErr x (FaultRose 0 0)) e h in
    absurd (omega arith)

pub returns-clause-fails : goal.returns-clause-fails
returns-clause-fails c = (
  λ e. absurd (no_fault c.write.result c.write.ensures.cause.failed e),
  λ listed. absurd (false≢true (sym c.if-fails.false ∙ c.fails.ensures.listed ∙ subst (λ s. fails_now s ≡ true) (sym c.self.view_is) listed)),
)
