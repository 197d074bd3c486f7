-- Whatever its destination, the datagram has headers.
use Rattle.std.proofs.Common.{refl}
use Rattle.net_types.specs.Arp.{no_mac}
use Rattle.frame_cases.proofs.routers.sent.Goals as goal

pub tag-requires : goal.tag-requires
tag-requires c = record { to = no_mac; from = no_mac; to_six = refl; from_six = refl; has = refl }
