-- One change more, or none.
use Rattle.std.proofs.Common.{sym, ap, ◌∙◌}
use Rattle.fast_path.specs.Emptied.{old_tags}
use Rattle.fast_path.proofs.MoveCount.{left_more, other_more, other_same}
use Rattle.fast_path.proofs.moves.moves_of.Goals as goal
use Rattle.fast_path.proofs.moves.moves_of.Goals.{then-not-same_tags+in_ok-push, else-not-same_tags}

pub loop-change-preserved : goal.loop-change-preserved
loop-change-preserved c =
    let k = c.args.known.now in
    let x = c.change-item.result in
    let before = c.loop-change.invariant in
    elim c.if-not-same_tags.branch [
      | then-not-same_tags+in_ok-push w ↦ record {
        changes = ap (λ m. m.changes) w.moves-is ∙ w.in_ok-push.ensures.changes
            ∙ other_more k c.args.tagged.now c.loop-change.change-index x c.loop-change-test.true c.change-item.is c.loop-change.moves.changes c.tag_of-before.result c.same_tags.result c.tag_of-before.ensures c.same_tags.ensures w.if-not-same_tags.true before.changes;
        left = left_more k c.loop-change.moves.changes c.if-not-same_tags.moves.changes x c.loop-change.moves.left.items c.if-not-same_tags.moves.left.items c.tag_of-before.result before.left
            (ap (λ m. m.changes) w.moves-is ∙ w.in_ok-push.ensures.changes) c.tag_of-before.ensures (ap (λ m. m.left.items) w.moves-is ∙ w.in_ok-push.ensures.left);
      }
      | else-not-same_tags w ↦ record {
        changes = ap (λ m. m.changes) w.moves-is
            ∙ other_same k c.args.tagged.now c.loop-change.change-index x c.loop-change-test.true c.change-item.is c.loop-change.moves.changes c.tag_of-before.result c.same_tags.result c.tag_of-before.ensures c.same_tags.ensures w.if-not-same_tags.false before.changes;
        left = ap (λ m. m.left.items) w.moves-is ∙ before.left ∙ ap (λ m. old_tags k.tag m.changes) (sym w.moves-is);
      }
    ]
