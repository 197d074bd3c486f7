-- Either all that is owed is done, and the swap is whole, or so many fewer units are owed.
use Rattle.std.proofs.Common.{◌≡◌, ◌≤◌, ◌<◌, ◌-◌, ◌∙◌, ap, subst, refl}
use Rattle.std.specs.Prelude.{min}
use Rattle.recompile.proofs.CoverLemmas.{done_is_full, none_left, ready, working}
use Rattle.recompile.specs.Setting.{Setting, setting}
use Rattle.recompile.specs.Underway.{Underway}
use Rattle.recompile.proofs.job.Job.work.Goals as goal

pub finish-requires : goal.finish-requires
finish-requires g c =
    let s : Setting = setting c.args.classes.now (g.B.Blocks.installed c.args.switch.now).table in
    let owed : c.self.inside.owed ≡ c.args.self.now.owed = ap (λ (j : Underway). j.owed) c.self.view_is in
    done_is_full s c.do_units.new.self c.do_units.ensures.kept (none_left s c.args.self.now c.do_units.new.self c.requires.covers c.do_units.ensures.kept c.min-count.result c.args.units
    (c.min-count.ensures ∙ ap (min c.args.units) owed) c.in_ok-do_units.ensures.done (subst (λ n. n ≤ c.args.units) owed c.if-is_last.true))

pub returns-then-is_last-clause-progress : goal.returns-then-is_last-clause-progress
returns-then-is_last-clause-progress g c =
    let s : Setting = setting c.args.classes.now (g.B.Blocks.installed c.args.switch.now).table in
    let owed : c.self.inside.owed ≡ c.args.self.now.owed = ap (λ (j : Underway). j.owed) c.self.view_is in
    ready s c.args.self.now c.do_units.new.self c.requires.covers c.do_units.ensures.kept c.min-count.result c.args.units
    (c.min-count.ensures ∙ ap (min c.args.units) owed) c.in_ok-do_units.ensures.done (subst (λ n. n ≤ c.args.units) owed c.if-is_last.true)
    c.finish.new.self c.do_units.ensures.owed c.in_ok-finish.ensures.rest c.in_ok-finish.field-0 c.in_ok-finish.ensures.moves c.in_ok-finish.ensures.built

pub returns-clause-progress : goal.returns-clause-progress
returns-clause-progress g c =
    let s : Setting = setting c.args.classes.now (g.B.Blocks.installed c.args.switch.now).table in
    let owed : c.self.inside.owed ≡ c.args.self.now.owed = ap (λ (j : Underway). j.owed) c.self.view_is in
    let more : c.args.units < c.args.self.now.owed = subst (λ n. c.args.units < n) owed c.if-is_last.false in
    let i = c.self-2.inside in
    let now : Underway = record { owed = i.owed - c.args.units; placed = i.placed; built = i.built; tags = i.tags.items; pairs = i.pairs.items } in (
      more,
      ap (λ (j : Underway). j.owed - c.args.units) c.self-2.view_is ∙ ap (λ n. n - c.args.units) c.do_units.ensures.owed,
      refl,
      working s c.args.self.now c.do_units.new.self c.requires.covers c.do_units.ensures.kept c.min-count.result c.args.units
          (c.min-count.ensures ∙ ap (min c.args.units) owed) c.in_ok-do_units.ensures.done more now
          (ap (λ (j : Underway). record j { owed = j.owed - c.args.units }) c.self-2.view_is ∙ ap (λ n. record c.do_units.new.self { owed = n - c.args.units }) c.do_units.ensures.owed),
    )
