use Rattle.net_types.proofs.PlaceLemmas.{sorted_none}
use Rattle.net_types.specs.Keys.{prefix_cmp}
use Rattle.prefix_map.proofs.map.PrefixMap.new.Goals as goal

pub returns : goal.returns
returns g c = sorted_none prefix_cmp
