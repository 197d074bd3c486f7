use Rattle.net_types.proofs.BitLemmas.{same_bits-cleared}
use Rattle.std.proofs.Common.{arith}
use Rattle.net_types.proofs.prefix.Prefix.covers.Goals as goal

pub returns : goal.returns
returns c =
    let p = c.args.self in
    rw (c.mask.ensures) (same_bits-cleared p.len p.address.0 c.args.ip.0 p.short p.in_range p.host_bits_zero (omega arith))
