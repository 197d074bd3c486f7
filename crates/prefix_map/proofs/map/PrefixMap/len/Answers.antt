use Rattle.std.proofs.Common.{length, ap, ◌∙◌}
use Rattle.prefix_map.proofs.MapLemmas.{entries_are}
use Rattle.prefix_map.proofs.map.PrefixMap.len.Goals as goal

pub returns : goal.returns
returns g c = c.self.invariant.counted ∙ ap length (entries_are c.self.inside.parts c.self.invariant.whole c.args.self.now.map (ap (λ s. s.map) c.self.view_is))
