-- The last entry, beside the key.
use Rattle.std.proofs.Common.{sym, ap, ◌∙◌, length, ◌-◌}
use Rattle.std.specs.Prelude.{slice_get}
use Rattle.std.specs.Ordering.{is_gt}
use Rattle.std.proofs.lemmas.Bool.{OnTrue_from, OnFalse_from}
use Rattle.ordered_map.proofs.RunLemmas.{past_last, within_last}
use Rattle.ordered_map.proofs.SizeLemmas.{past_none, some_there}
use Rattle.ordered_map.proofs.run.Run.is_below.Goals as goal

pub returns-in-Some-clause-past : goal.returns-in-Some-clause-past
returns-in-Some-clause-past g c =
    OnTrue_from c.is_gt.result _ (λ more. past_last g.K.Ord.cmp g.met.K.Ord.total c.args.key.now c.args.self.now c.in-Some.field-0.now
    (ap (λ ds. slice_get ds (length ds - 1)) (sym c.self.view_is ∙ sym c.deref.ensures.value) ∙ sym c.in-Some.ensures.value)
    c.requires.rising (ap is_gt (sym c.cmp.ensures) ∙ sym c.is_gt.ensures ∙ more))

pub returns-in-Some-clause-within : goal.returns-in-Some-clause-within
returns-in-Some-clause-within g c =
    OnFalse_from c.is_gt.result _ (λ low. within_last g.K.Ord.cmp g.met.K.Ord.total c.args.key.now c.args.self.now c.in-Some.field-0.now
    (ap (λ ds. slice_get ds (length ds - 1)) (sym c.self.view_is ∙ sym c.deref.ensures.value) ∙ sym c.in-Some.ensures.value)
    (ap is_gt (sym c.cmp.ensures) ∙ sym c.is_gt.ensures ∙ low))

pub returns-in-Some-clause-some : goal.returns-in-Some-clause-some
returns-in-Some-clause-some g c = OnFalse_from c.is_gt.result _ (λ low. some_there c.args.self.now c.in-Some.field-0.now (ap (λ ds. slice_get ds (length ds - 1)) (sym c.self.view_is ∙ sym c.deref.ensures.value) ∙ sym c.in-Some.ensures.value))

pub returns-in-None-clause-past : goal.returns-in-None-clause-past
returns-in-None-clause-past g c = past_none g.K.Ord.cmp c.args.key.now c.args.self.now (ap (λ ds. slice_get ds (length ds - 1)) (sym c.self.view_is ∙ sym c.deref.ensures.value) ∙ sym c.in-None.ensures.value)
