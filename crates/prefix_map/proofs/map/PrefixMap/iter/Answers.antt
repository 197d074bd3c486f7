use Rattle.std.proofs.Common.{ap, ◌∙◌}
use Rattle.prefix_map.proofs.MapLemmas.{entries_are}
use Rattle.prefix_map.proofs.map.PrefixMap.iter.Goals as goal

pub returns : goal.returns
returns g c = c.new.ensures ∙ entries_are c.self.inside.parts c.self.invariant.whole c.args.self.now.map (ap (λ s. s.map) c.self.view_is)
