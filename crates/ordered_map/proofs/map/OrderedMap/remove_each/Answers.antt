-- Nothing is counted.
use Rattle.std.proofs.Common.{◌<◌, ◌^◌, ◌+◌, sym, subst, arith}
use Rattle.ordered_map.proofs.WeightLemmas.{weigh_nothing}
use Rattle.ordered_map.proofs.map.OrderedMap.remove_each.Goals as goal

pub remove_counted-requires : goal.remove_counted-requires
remove_counted-requires g c = record { few = subst (λ n. 0 + n < 2 ^ 64) (sym (weigh_nothing c.args.self.now.items)) (omega arith) }
