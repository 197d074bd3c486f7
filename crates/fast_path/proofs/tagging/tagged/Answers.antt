use Rattle.std.proofs.Common.{◌+◌, ◌++◌, ◌∷◌, [], sym, ap, ◌∙◌, drop}
use Rattle.std.specs.Prelude.{slice_get}
use Rattle.fast_path.specs.Offers.{tagged}
use Rattle.fast_path.proofs.GroupLemmas.{item_at, tagged_step}
use Rattle.fast_path.proofs.tagging.tagged.Goals as goal

pub loop-at-preserved : goal.loop-at-preserved
loop-at-preserved c =
    let p = c.args.proposal.now in
    let at = c.loop-at.at in
    let k = c.args.known.now in
    let rest = tagged k c.args.groups.now c.args.tags.now (drop (at + 1) p.touched) (drop (at + 1) p.sigs) in
    ap (λ cs. cs ++ tagged k c.args.groups.now c.args.tags.now (drop (at + 1) p.touched) (drop (at + 1) p.sigs)) c.in_ok-push.ensures.ok
    ∙ ap (λ o. (c.loop-at.all ++ record { prefix = c.index-touched-at.result; tag = o } ∷ []) ++ rest) c.tag_after-tag.ensures
    ∙ sym (tagged_step k c.args.groups.now c.args.tags.now p.touched p.sigs at c.index-touched-at.result c.sig.result.now c.loop-at.all
    (ap (λ xs. slice_get xs at) (sym c.touched-touched.ensures) ∙ item_at c.touched-touched.result.now at c.index-touched-at.result c.index-touched-at.is c.loop-at-test.true) c.sig.ensures)
    ∙ c.loop-at.invariant
