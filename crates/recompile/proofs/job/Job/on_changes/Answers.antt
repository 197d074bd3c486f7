-- What the line changes is listed or taken out.
use Rattle.std.proofs.Common.{subst}
use Rattle.recompile.proofs.ChangeLemmas.{changed_covers}
use Rattle.recompile.specs.Changing.{CoversAfter}
use Rattle.recompile.specs.Underway.{Underway}
use Rattle.recompile.proofs.job.Job.on_changes.Goals as goal

pub returns-clause-covers : goal.returns-clause-covers
returns-clause-covers c =
    let i = c.self.inside in
    let was : Underway = record { owed = i.owed; placed = i.placed; built = i.built; tags = i.tags.items; pairs = i.pairs.items } in
    let now : Underway = record { owed = c.more_units-self-inside.result; placed = c.take_out_each.new.placed; built = c.take_each.new.self; tags = c.push_both.new.tags.items; pairs = c.push_both.new.pairs.items } in
    subst (λ j. CoversAfter c.args.fresh.now c.args.emptied.now c.args.added.now j now) c.self.view_is
    (changed_covers c.args.fresh.now c.args.emptied.now c.args.added.now c.args.newly c.args.ports was now c.requires.few
    c.take_out_each.ensures c.take_each.ensures c.in_ok-push_both.ensures.tags c.in_ok-push_both.ensures.pairs c.in_ok-push_both.ensures.few c.more_units-self-inside.ensures)
