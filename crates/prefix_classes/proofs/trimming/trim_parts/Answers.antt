use Rattle.std.proofs.Common.{set, sym, ap, ◌∙◌}
use Rattle.std.proofs.lemmas.List.Edits.{map_over_more}
use Rattle.net_types.specs.Signatures.{trimmed_part}
use Rattle.net_types.specs.declared.route.Part.{Part}
use Rattle.prefix_classes.proofs.trimming.trim_parts.Goals as goal

pub loop-part-preserved : goal.loop-part-preserved
loop-part-preserved c =
    ap (set c.loop-part.parts c.loop-part.part-index) c.trim_part.ensures
    ∙ ap (λ (x : Part). set c.loop-part.parts c.loop-part.part-index (trimmed_part c.args.who c.args.named.now x)) (sym c.part-item.is)
    ∙ map_over_more (trimmed_part c.args.who c.args.named.now) c.args.parts.now c.loop-part.parts c.loop-part.part-index c.part-item.result c.loop-part-test.true c.loop-part.invariant c.part-item.is
