use Rattle.std.proofs.Common.{◌+◌, ◌-◌, ◌%◌, ◌^◌, ◌<◌, sym, ap, subst, ◌∙◌, arith}
use Rattle.prefix_map.proofs.HalfLemmas.{half_exponent, upper_address, upper_fits, upper_zeros, two_halves}
use Rattle.prefix_map.proofs.place.upper_half.Goals as goal

pub overflow_add-result : goal.overflow_add-result
overflow_add-result c = let same = upper_address c.args.of c.requires in let fits = upper_fits c.args.of c.requires in omega (arith, same, fits)

pub invariant_of-result : goal.invariant_of-result
invariant_of-result c = record {
  in_range = subst (λ n. n < 2 ^ 32) (sym (upper_address c.args.of c.requires)) (upper_fits c.args.of c.requires);
  short = omega arith;
  host_bits_zero = ap (λ n. n % 2 ^ (32 - (c.args.of.len + 1))) (upper_address c.args.of c.requires) ∙ upper_zeros c.args.of c.requires;
}

pub returns-clause-past : goal.returns-clause-past
returns-clause-past c =
    let address = upper_address c.args.of c.requires in
    let half = ap (λ n. 2 ^ n) (half_exponent c.args.of c.requires) in
    let sum = two_halves c.args.of.len c.requires in
    omega (arith, address, half, sum)
