-- None leaves by the port of the NEXT_HOP.
use Rattle.block_build.proofs.receive.are_apart.Goals as goal

pub returns-else-none_goes : goal.returns-else-none_goes
returns-else-none_goes c = λ yes i j one other stays leaves. c.none_goes-else-none_goes.ensures yes j other leaves
