use Rattle.std.proofs.Common.{arith}
use Rattle.text_fields.proofs.FirstBits.{is_prefix_of}
use Rattle.text_fields.proofs.prefixes.first_bits.Goals as goal

pub returns : goal.returns
returns c = is_prefix_of c.args.ip c.args.len c.in-Ok.prefix (omega arith) c.in-Ok.ensures.len c.in-Ok.ensures.bits
