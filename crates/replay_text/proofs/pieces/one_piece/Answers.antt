use Rattle.std.proofs.Common.{arith, ap, length}
use Rattle.replay_text.proofs.PieceSplits.{pieces_some}
use Rattle.replay_text.proofs.pieces.one_piece.Goals as goal

pub returns-in-Some : goal.returns-in-Some
returns-in-Some c =
    let cut = c.in-Some.ensures.pieces in
    let more = pieces_some c.args.separator c.in-Some.field-0.1.now in
    λ one. omega (arith, ap length cut, more)
