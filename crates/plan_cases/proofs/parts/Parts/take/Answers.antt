use Rattle.std.proofs.Common.{◌≡◌, ◌<◌, ap, arith, length, sym, subst, ◌∙◌}
use Rattle.events.specs.State.{State}
use Rattle.plan_cases.proofs.parts.Parts.take.Goals as goal

pub told_tags-requires-2 : goal.told_tags-requires-2
told_tags-requires-2 c =
    let below : c.args.who.0 < length c.self.inside.adverts.told = omega (arith, c.if-who-len.false, c.len.ensures.told) in
    let same : length c.self-2.inside.adverts.told ≡ length c.self.inside.adverts.told =
    ap (λ (x : State). length x.told) c.self-2.view_is ∙ c.tell.ensures ∙ sym (ap (λ (x : State). length x.told) c.self.view_is) in
    record { declared = subst (λ n. c.args.who.0 < n) (sym same) below }
