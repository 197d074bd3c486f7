-- A prefix of so many bits that has those of the address is the one that is read.
use Rattle.std.proofs.Common.{◌≡◌, ◌≤◌, IsTrue, subst, arith}
use Rattle.net_types.specs.Bits.{same_bits}
use Rattle.bgp_update.proofs.PrefixReading.{prefix_read}
use Rattle.bgp_update.proofs.prefixes.prefix.Goals as goal

pub returns-in-Ok-clause-reads : goal.returns-in-Ok-clause-reads
returns-in-Ok-clause-reads c =
    let short : c.in-Ok.prefix.len ≤ 32 = c.in-Ok.prefix.short in
    let same : c.in-Ok.prefix.len ≡ c.in_ok-len.len = c.in-Ok.ensures.len in
    prefix_read c.args.rest.now c.in_ok-len.rest.now c.in_ok-bits.rest.now c.in_ok-bits.bits.now c.in_ok-len.len c.in-Ok.prefix
    c.in_ok-len.ensures.reads c.in_ok-bits.ensures.reads (omega (arith, short, same)) same
    (subst (λ n. IsTrue (same_bits c.in_ok-len.len c.in-Ok.prefix.address.0 n)) c.padded.ensures c.in-Ok.ensures.bits)
