use Rattle.std.proofs.Common.{ap}
use Rattle.prefix_map.proofs.MapLemmas.{longest_is, longest_has}
use Rattle.prefix_map.proofs.map.PrefixMap.longest.Goals as goal

pub returns-clause-key : goal.returns-clause-key
returns-clause-key g c = longest_is c.self.inside.parts c.self.invariant.whole c.args.self.now.map (ap (λ s. s.map) c.self.view_is) c.args.ip c.longest.result c.longest.ensures

pub returns-clause-value : goal.returns-clause-value
returns-clause-value g c = longest_has c.self.inside.parts c.self.invariant.whole c.args.self.now.map (ap (λ s. s.map) c.self.view_is) c.args.ip c.longest.result c.longest.ensures
