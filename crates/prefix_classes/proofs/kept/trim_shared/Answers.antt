use Rattle.std.proofs.Common.{set, sym, ap, ◌∙◌}
use Rattle.std.specs.Prelude.{Option}
use Rattle.std.proofs.lemmas.List.Edits.{map_over_more}
use Rattle.prefix_classes.specs.Slots.{trimmed_shared}
use Rattle.prefix_classes.specs.declared.kept.Shared.{Shared}
use Rattle.prefix_classes.proofs.kept.trim_shared.Goals as goal

pub loop-one-preserved : goal.loop-one-preserved
loop-one-preserved c =
    ap (set c.loop-one.shared c.loop-one.one-index) c.trim_one.ensures
    ∙ ap (λ (x : Option Shared). set c.loop-one.shared c.loop-one.one-index (trimmed_shared c.args.who c.args.named.now x)) (sym c.one-item.is)
    ∙ map_over_more (trimmed_shared c.args.who c.args.named.now) c.args.shared.now c.loop-one.shared c.loop-one.one-index c.one-item.result c.loop-one-test.true c.loop-one.invariant c.one-item.is
