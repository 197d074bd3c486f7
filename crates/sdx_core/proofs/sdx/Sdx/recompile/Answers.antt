use Rattle.std.proofs.Common.{◌≡◌, ◌+◌, [], ap, length, subst, sym, refl, ◌∙◌}
use Rattle.std.specs.FinMap.{entries, keys}
use Rattle.std.specs.Prelude.{None, Some}
use Rattle.events.specs.Fits.{IsStep, bare}
use Rattle.events.specs.State.{State}
use Rattle.events.specs.Tags.{capped}
use Rattle.events.specs.declared.Event.TheVariants.{Recompile}
use Rattle.events.specs.declared.Head.TheVariants.{Working}
use Rattle.recompile.specs.Changing.{CoversListed}
use Rattle.sdx_core.proofs.Jobs.{ended_kept, none_of, started_kept, started_step}
use Rattle.sdx_core.specs.View.{IsKept, with_job}
use Rattle.sdx_core.proofs.sdx.Sdx.recompile.Goals as goal

pub invariant_of-self : goal.invariant_of-self
invariant_of-self c =
    let s : State = c.self.inside.core in
    let j = c.in_ok-job.job in
    let covers : CoversListed s.tag [] (keys s.table) j = subst (λ ps. CoversListed s.tag [] ps j) c.in_ok-pairs.ensures (subst (λ tags. CoversListed tags [] c.in_ok-pairs.pairs j) c.classes.ensures.tag c.in_ok-job.ensures.covers) in
    let owes : j.owed ≡ capped (length (entries s.tag) + length (keys s.table)) = c.in_ok-job.ensures.owed ∙ (λ i. capped (length (entries (c.classes.ensures.tag i)) + length (c.in_ok-pairs.ensures i))) in
    subst (λ (x : State). IsKept x (Some j)) (sym c.start_running.ensures)
    (started_kept s j (bare (Working j.owed)) c.recompiles_are_accepted.ensures c.jobs_begin.ensures c.is_steady.ensures (ended_kept s) (sym c.is_placed.ensures ∙ c.if-not-is_placed.false) covers owes refl)

pub returns-clause-step : goal.returns-clause-step
returns-clause-step c =
    let a = c.self.inside in
    let s : State = a.core in
    let j = c.in_ok-job.job in
    let none : a.job ≡ None = none_of a.job (sym c.is_some.ensures ∙ c.if-is_some.false) in
    let covers : CoversListed s.tag [] (keys s.table) j = subst (λ ps. CoversListed s.tag [] ps j) c.in_ok-pairs.ensures (subst (λ tags. CoversListed tags [] c.in_ok-pairs.pairs j) c.classes.ensures.tag c.in_ok-job.ensures.covers) in
    let owes : j.owed ≡ capped (length (entries s.tag) + length (keys s.table)) = c.in_ok-job.ensures.owed ∙ (λ i. capped (length (entries (c.classes.ensures.tag i)) + length (c.in_ok-pairs.ensures i))) in
    subst (λ (x : State). IsStep x Recompile c.bare_reply.result (with_job c.start_running.new.self (Some j))) (ap (with_job s) (sym none) ∙ c.self.view_is)
    (subst (λ (x : State). IsStep (with_job s None) Recompile c.bare_reply.result (with_job x (Some j))) (sym c.start_running.ensures)
    (started_step s j c.bare_reply.result c.recompiles_are_accepted.ensures c.jobs_begin.ensures c.is_steady.ensures (ended_kept s) (sym c.is_placed.ensures ∙ c.if-not-is_placed.false) covers owes
    (c.bare_reply.ensures ∙ ap (λ n. bare (Working n)) c.owed-owed.ensures)))
