use Rattle.std.proofs.Common.{ap, ◌+◌, ◌*◌, refl}
use Rattle.load_gen.proofs.Numbering.{network_is}
use Rattle.load_gen.proofs.updates.network_prefix.Goals as goal

pub returns : goal.returns
returns c = network_is c.args.network _ c.ranges.network.fits (ap (λ n. 167772160 + 65536 * n) c.from.ensures) refl
