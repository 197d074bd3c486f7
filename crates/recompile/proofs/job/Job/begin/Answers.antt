-- Nothing is done, and all that may be to do is listed.
use Rattle.std.proofs.Common.{length, ap, ◌∙◌, ◌+◌}
use Rattle.std.specs.FinMap.{entries}
use Rattle.events.specs.Tags.{capped}
use Rattle.recompile.proofs.ChangeLemmas.{begun_covers}
use Rattle.recompile.specs.Underway.{Underway}
use Rattle.recompile.proofs.job.Job.begin.Goals as goal

pub returns-clause-covers : goal.returns-clause-covers
returns-clause-covers c =
    let j : Underway = record { owed = c.all_units-owed.result; placed = c.reserve_each.new.placed; built = c.new.result; tags = c.in_ok-tags.tags.items; pairs = c.in_ok-pairs.pairs.items } in
    begun_covers c.args.classes.now.tag c.args.fresh.now c.args.pairs j (c.reserve_each.ensures ∙ c.new-placed.ensures) c.new.ensures c.in_ok-tags.ensures.used c.in_ok-tags.ensures.fresh c.in_ok-pairs.ensures.0 c.in_ok-pairs.ensures.1
    (c.all_units-owed.ensures ∙ ap (λ n. capped (n + c.len.result)) c.carried.ensures ∙ ap (λ n. capped (length (entries c.args.classes.now.tag) + n)) c.len.ensures)
