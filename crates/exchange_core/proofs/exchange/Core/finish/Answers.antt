use Rattle.std.proofs.Common.{◌≡◌, ap, arith, subst, sym, refl, ◌∙◌}
use Rattle.std.specs.Prelude.{Some}
use Rattle.events.specs.State.{State}
use Rattle.events.specs.declared.Phase.TheVariants.{Running}
use Rattle.exchange_core.specs.Jobs.{EndsJob}
use Rattle.fast_path.specs.Planned.{IsPoolOf}
use Rattle.job_end.specs.Ends.{IsEnd}
use Rattle.exchange_core.specs.Placed.{is_declared}
use Rattle.exchange_core.specs.View.{state_of}
use Rattle.exchange_core.proofs.Ended.{Shows, committed, end_of, ended_kept, ended_present, ends_job, parts, reached, says_end, shown_by, shown_still, steady_with}
use Rattle.job_laws.specs.Jobs.{IsSteadyInJob, without_job}
use Rattle.recompile.specs.Setting.{setting_of}
use Rattle.recompile.specs.Working.{IsSwap}
use Rattle.exchange_core.proofs.exchange.Core.finish.Goals as goal

pub reserve_end-requires-clause-declared : goal.reserve_end-requires-clause-declared
reserve_end-requires-clause-declared c = sym c.self.invariant.kept.steady.told

pub reserve_end-requires-clause-known : goal.reserve_end-requires-clause-known
reserve_end-requires-clause-known c =
    let a = c.self.inside in
    let s : State = state_of a.phase a.base a.size a.registry a.server a.resolved.items a.classes a.adverts.told a.switch a.programs.items in
    let steady = c.self.invariant.kept.steady in
    let swaps = subst (λ (x : State). IsSwap (setting_of x) c.args.swap) (sym c.self.view_is) c.requires.swap in
    c.ends_are_committed.ensures.known s c.args.swap c.in-Ok.end (end_of s s refl steady tt c.args.swap c.in-Ok.end swaps (c.in-Ok.ensures s (steady_with s s refl steady tt) c.self.view_is))

pub commit_end-changes-requires : goal.commit_end-changes-requires
commit_end-changes-requires c =
    let a = c.self.inside in
    let s : State = state_of a.phase a.base a.size a.registry a.server a.resolved.items a.classes a.adverts.told a.switch a.programs.items in
    let steady = c.self.invariant.kept.steady in
    let swaps = subst (λ (x : State). IsSwap (setting_of x) c.args.swap) (sym c.self.view_is) c.requires.swap in
    let shows : Shows s a.registry a.classes a.pool a.switch a.adverts = shown_by a.phase a.base a.size a.registry a.server a.resolved.items a.classes a.adverts a.switch a.programs.items a.pool c.self.invariant.kept c.self.invariant.present in
    let still = shown_still s a.registry a.classes a.pool a.switch a.adverts c.reserve_end.new.adverts shows c.reserve_end.ensures.told c.reserve_end.ensures.present in
    c.ends_are_committed.ensures.allowed s c.args.swap c.in-Ok.end a.classes a.pool a.switch c.reserve_end.new.adverts
    (end_of s s refl steady tt c.args.swap c.in-Ok.end swaps (c.in-Ok.ensures s (steady_with s s refl steady tt) c.self.view_is)) (parts s a.registry a.classes a.pool a.switch c.reserve_end.new.adverts still s refl) c.in-Ok-reserve_end.ensures.offers

pub invariant_of-self-2 : goal.invariant_of-self-2
invariant_of-self-2 c =
    let a = c.self.inside in
    let s : State = state_of a.phase a.base a.size a.registry a.server a.resolved.items a.classes a.adverts.told a.switch a.programs.items in
    let steady = c.self.invariant.kept.steady in
    let swaps : IsSwap (setting_of s) c.args.swap = subst (λ (x : State). IsSwap (setting_of x) c.args.swap) (sym c.self.view_is) c.requires.swap in
    let ends : (w : State) → IsSteadyInJob w → without_job w ≡ s → IsEnd w c.args.swap c.in-Ok.end = λ w in_job is. c.in-Ok.ensures w in_job (is ∙ c.self.view_is) in
    let shows : Shows s a.registry a.classes a.pool a.switch a.adverts = shown_by a.phase a.base a.size a.registry a.server a.resolved.items a.classes a.adverts a.switch a.programs.items a.pool c.self.invariant.kept c.self.invariant.present in
    let still = shown_still s a.registry a.classes a.pool a.switch a.adverts c.reserve_end.new.adverts shows c.reserve_end.ensures.told c.reserve_end.ensures.present in
    let done = c.commit_end-changes.ensures in
    let classes' = c.commit_end-changes.new.classes in
    let told' = c.commit_end-changes.new.adverts.told in
    let installed' = c.commit_end-changes.new.switch in
    let committed' = committed a.phase a.base a.size a.registry a.server a.resolved.items a.classes a.adverts.told a.switch a.programs.items c.args.swap c.in-Ok.end classes' told' installed'
    a.pool c.reserve_end.new.adverts still c.ends_are_committed.ensures.reached steady swaps ends done.tag done.kept done.table done.capacity done.told in
    let w : State = record s { owed = Some 0 } in
    let to = reached a.phase a.base a.size a.registry a.server a.resolved.items a.classes a.adverts.told a.switch a.programs.items c.args.swap c.in-Ok.end classes' told' installed'
    a.pool c.reserve_end.new.adverts still c.ends_are_committed.ensures.reached steady swaps ends w (steady_with s w refl steady (omega arith)) refl in
    record {
      kept = ended_kept a.phase a.base a.size a.registry a.server a.resolved.items a.classes a.adverts.told a.switch a.programs.items c.args.swap c.in-Ok.end classes' told' installed'
          c.ends_are_committed.ensures.fits steady swaps ends committed' (ap (λ (x : State). is_declared x.phase) c.self.view_is ∙ c.requires.declared) a.pool c.commit_end-changes.new.pool c.self.invariant.kept (subst (IsPoolOf _) (sym done.pool) to.pool);
      present = ended_present a.phase a.base a.size a.registry a.server a.resolved.items a.classes a.adverts.told a.switch a.programs.items c.args.swap c.in-Ok.end classes' told' installed'
          c.ends_are_committed.ensures.fits steady swaps ends committed' c.commit_end-changes.new.adverts.present (done.present ∙ to.present);
    }

pub returns-clause-step : goal.returns-clause-step
returns-clause-step c =
    let a = c.self.inside in
    let s : State = state_of a.phase a.base a.size a.registry a.server a.resolved.items a.classes a.adverts.told a.switch a.programs.items in
    let steady = c.self.invariant.kept.steady in
    let swaps : IsSwap (setting_of s) c.args.swap = subst (λ (x : State). IsSwap (setting_of x) c.args.swap) (sym c.self.view_is) c.requires.swap in
    let ends : (w : State) → IsSteadyInJob w → without_job w ≡ s → IsEnd w c.args.swap c.in-Ok.end = λ w in_job is. c.in-Ok.ensures w in_job (is ∙ c.self.view_is) in
    let shows : Shows s a.registry a.classes a.pool a.switch a.adverts = shown_by a.phase a.base a.size a.registry a.server a.resolved.items a.classes a.adverts a.switch a.programs.items a.pool c.self.invariant.kept c.self.invariant.present in
    let still = shown_still s a.registry a.classes a.pool a.switch a.adverts c.reserve_end.new.adverts shows c.reserve_end.ensures.told c.reserve_end.ensures.present in
    let done = c.commit_end-changes.ensures in
    let classes' = c.commit_end-changes.new.classes in
    let told' = c.commit_end-changes.new.adverts.told in
    let installed' = c.commit_end-changes.new.switch in
    let committed' = committed a.phase a.base a.size a.registry a.server a.resolved.items a.classes a.adverts.told a.switch a.programs.items c.args.swap c.in-Ok.end classes' told' installed'
    a.pool c.reserve_end.new.adverts still c.ends_are_committed.ensures.reached steady swaps ends done.tag done.kept done.table done.capacity done.told in
    let after : State = state_of Running a.base a.size a.registry a.server a.resolved.items classes' told' installed' a.programs.items in
    subst (λ (x : State). EndsJob x c.changes_reply.result after) c.self.view_is
    (ends_job a.phase a.base a.size a.registry a.server a.resolved.items a.classes a.adverts.told a.switch a.programs.items c.args.swap c.in-Ok.end classes' told' installed'
    c.ends_are_committed.ensures.fits steady swaps ends committed' c.changes_reply.result (says_end c.changes_reply.result c.commit_end-changes.result c.in-Ok.end c.changes_reply.ensures done.changes))
