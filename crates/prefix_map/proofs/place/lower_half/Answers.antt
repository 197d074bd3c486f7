use Rattle.std.proofs.Common.{arith}
use Rattle.prefix_map.proofs.HalfLemmas.{lower_zeros}
use Rattle.prefix_map.proofs.place.lower_half.Goals as goal

pub invariant_of-result : goal.invariant_of-result
invariant_of-result c = record { in_range = c.args.of.in_range; short = (omega arith); host_bits_zero = lower_zeros c.args.of c.requires }
