use Rattle.std.proofs.Common.{◌++◌, take, ap, ◌∙◌, arith}
use Rattle.replay_run.proofs.Takes.{take_room}
use Rattle.replay_run.proofs.open_line.OpenLine.push.Goals as goal

pub returns : goal.returns
returns c =
    c.in_ok-extend_from_slice.ensures.items
    ∙ take_room 20001 c.min.result c.self.inside.octets.items c.args.part.now (omega arith) (omega arith)
    ∙ ap (λ l. take 20001 (l ++ c.args.part.now)) c.self.view_is
