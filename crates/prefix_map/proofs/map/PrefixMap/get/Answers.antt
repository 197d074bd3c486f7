use Rattle.std.proofs.Common.{ap, ◌∙◌}
use Rattle.prefix_map.proofs.MapLemmas.{get_is}
use Rattle.prefix_map.proofs.map.PrefixMap.get.Goals as goal

pub returns : goal.returns
returns g c = c.value.ensures ∙ get_is c.self.inside.parts c.self.invariant.whole c.args.self.now.map (ap (λ s. s.map) c.self.view_is) c.args.key
