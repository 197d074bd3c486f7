use Rattle.std.proofs.Common.{◌≡◌, ◌∙◌, ap, sym, length, arith}
use Rattle.events.specs.State.{State}
use Rattle.events.specs.Tags.{free_tags}
use Rattle.exchange_core.proofs.exchange.Core.live_tags.Goals as goal

pub overflow_sub-result : goal.overflow_sub-result
overflow_sub-result c =
    let s = c.args.self.now in
    let free : length (free_tags s) ≡ c.free.result = ap (λ (t : State). length (free_tags t)) (sym c.self.view_is) ∙ ap length c.self.invariant.kept.free ∙ sym c.free.ensures in
    let size : s.size ≡ c.self.inside.size = ap (λ (t : State). t.size) (sym c.self.view_is) in
    omega (arith, free, size, c.tags_are_counted.ensures s)
