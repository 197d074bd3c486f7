-- A key that is less than the next one.
use Rattle.std.proofs.Common.{sym, ap, ◌∙◌}
use Rattle.std.specs.Ordering.{is_lt}
use Rattle.std.specs.Prelude.{option_copied, slice_get}
use Rattle.std.specs.FinMap.Entries.{is_sorted}
use Rattle.ordered_map.specs.Parted.{keyed}
use Rattle.ordered_map.proofs.PartLemmas.{all_after, first_rises}
use Rattle.ordered_map.proofs.keys.rise.Goals as goal

pub loop-rest-preserved-else-not-is_lt : goal.loop-rest-preserved-else-not-is_lt
loop-rest-preserved-else-not-is_lt g c =
    let rest = c.loop-rest.rest.now in
    let others = all_after rest 1 in
    ap (λ ks. is_sorted g.K.Ord.cmp (keyed ks)) others
    ∙ first_rises g.K.Ord.cmp g.met.K.Ord.total rest c.first-item.result c.in-Some.second.now c.in-len1-up.len_at_least c.first-item.is
    (ap (λ ks. slice_get ks 0) (sym others) ∙ sym c.first.ensures.value ∙ ap option_copied c.in-Some.is)
    (ap is_lt (sym c.cmp.ensures) ∙ sym c.is_lt.ensures ∙ c.if-not-is_lt.false)
    ∙ c.loop-rest.invariant
