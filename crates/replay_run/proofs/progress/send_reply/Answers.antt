use Rattle.std.proofs.Common.{[], ◌++◌, sym, ap, ◌∙◌, append_assoc, arith}
use Rattle.replay_run.proofs.Sendings.{none_sent, sent_along, sent_before, sent_then}
use Rattle.replay_run.proofs.progress.send_reply.Goals as goal

pub loop-piece-init : goal.loop-piece-init
loop-piece-init g c = record {
  sent = ([], sym c.new-left.ensures, none_sent (g.K.Sink.held c.args.sink.now) c.args.text.now.items []);
  later = omega arith;
}

pub loop-piece-preserved : goal.loop-piece-preserved
loop-piece-preserved g c =
    let i = c.loop-piece.invariant.sent in
    let cut = rw c.in-Ok-Some.field-0-is at c.in-Ok-Some.ensures in
    let p = c.in-Ok-Some.piece in
    record {
      sent = (
        i.0 ++ p,
        i.1 ∙ ap (λ x. i.0 ++ x) cut.0 ∙ sym (append_assoc i.0 p c.piece.new.self),
        sent_then _ _ _ c.args.text.now.items i.0 c.loop-piece.text.items p c.send_piece.new.text.items [] i.2
            (sent_along _ _ c.loop-piece.text.items c.items.result.now p c.send_piece.new.text.items [] c.items.ensures c.in-Ok.ensures.ok),
      );
      later = omega (arith, c.in-Ok.ensures.cause.later, c.loop-piece.invariant.later);
    }

pub returns-in-Err-send_piece-clause-err : goal.returns-in-Err-send_piece-clause-err
returns-in-Err-send_piece-clause-err g c =
    let i = c.loop-piece.invariant.sent in
    let cut = rw c.in-Ok-Some.field-0-is at c.in-Ok-Some.ensures in
    let p = c.in-Ok-Some.piece in
    let left = c.piece.new.self in
    let lost = c.in-Err-send_piece.ensures.err in
    let both = sent_then _ _ _ c.args.text.now.items i.0 c.loop-piece.text.items p c.send_piece.new.text.items lost.0 i.2
    (sent_along _ _ c.loop-piece.text.items c.items.result.now p c.send_piece.new.text.items lost.0 c.items.ensures lost.1) in (
      lost.0 ++ left,
      sent_along _ _ c.args.text.now.items ((i.0 ++ p) ++ left) _ c.send_piece.new.text.items (lost.0 ++ left) (append_assoc i.0 p left ∙ ap (λ x. i.0 ++ x) (sym cut.0) ∙ sym i.1)
          (sent_before _ _ c.args.text.now.items (i.0 ++ p) c.send_piece.new.text.items lost.0 left both),
    )

pub returns-in-Err-clause-err : goal.returns-in-Err-clause-err
returns-in-Err-clause-err g c =
    let i = c.loop-piece.invariant.sent in (
      c.loop-piece.left,
      sent_along _ _ c.args.text.now.items (i.0 ++ c.loop-piece.left) _ c.loop-piece.text.items c.loop-piece.left (sym i.1)
          (sent_before _ _ c.args.text.now.items i.0 c.loop-piece.text.items [] c.loop-piece.left i.2),
    )
