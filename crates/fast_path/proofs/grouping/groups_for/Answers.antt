use Rattle.std.proofs.Common.{◌+◌, sym, ap, ◌∙◌, drop}
use Rattle.std.specs.Prelude.{slice_get}
use Rattle.fast_path.specs.Grouping.{groups_of, more_groups, moved_groups}
use Rattle.fast_path.proofs.GroupLemmas.{item_at, moved_step}
use Rattle.fast_path.proofs.grouping.groups_for.Goals as goal

pub loop-at-preserved : goal.loop-at-preserved
loop-at-preserved c =
    let p = c.args.proposal.now in
    let at = c.loop-at.at in
    let k = c.args.known.now in
    ap (λ gs. more_groups gs (moved_groups k (drop (at + 1) p.touched) (drop (at + 1) p.sigs))) c.in_ok-consider.ensures
    ∙ sym (moved_step k p.touched p.sigs at c.prefix-item.result c.sig-sig.result.now (groups_of c.loop-at.groups)
    (ap (λ xs. slice_get xs at) (sym c.touched-prefix-items.ensures) ∙ item_at c.touched-prefix-items.result.now at c.prefix-item.result c.prefix-item.is c.loop-at-test.true) c.sig-sig.ensures)
    ∙ c.loop-at.invariant
