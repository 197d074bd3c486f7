-- One tag more, and the end.
use Rattle.std.proofs.Common.{refl}
use Rattle.fast_path.proofs.EmptiedLoop.{all_left, none_left, one_left}
use Rattle.fast_path.proofs.emptied.emptied.Goals as goal
use Rattle.fast_path.proofs.emptied.emptied.Goals.{then-count_of-members+in_ok-push, else-count_of-members}

pub loop-tag-preserved : goal.loop-tag-preserved
loop-tag-preserved c = elim c.if-count_of-members.branch [
  | then-count_of-members+in_ok-push w ↦ rw w.emptied-is
      (one_left c.args.classes.now.tag c.args.left.items c.sorted-old.result.items c.sorted-old.ensures.moved
      c.deref-tag-items.result.now c.loop-tag.tag-index (record { 0 = 0 }) c.loop-tag-test.true c.loop-tag.emptied.items c.loop-tag.invariant
      c.deref-in-loop-tag.result.now c.count_of.result c.members.result c.deref-in-loop-tag.ensures.value c.count_of.ensures c.members.ensures w.if-count_of-members.true w.push.new.self.items w.in_ok-push.ensures.items)
  | else-count_of-members w ↦ rw w.emptied-is
      (none_left c.args.classes.now.tag c.args.left.items c.sorted-old.result.items c.sorted-old.ensures.moved
      c.deref-tag-items.result.now c.loop-tag.tag-index (record { 0 = 0 }) c.loop-tag-test.true c.loop-tag.emptied.items c.loop-tag.invariant
      c.deref-in-loop-tag.result.now c.count_of.result c.members.result c.deref-in-loop-tag.ensures.value c.count_of.ensures c.members.ensures w.if-count_of-members.false c.loop-tag.emptied.items refl)
]

pub returns : goal.returns
returns c =
    all_left c.args.classes.now.tag c.args.left.items c.sorted-old.result.items c.sorted-old.ensures.moved
    c.loop-tag.emptied.items c.in_ok-once.once.items c.deref-tag-items.result.now c.deref.result.now c.loop-tag.tag-index
    c.loop-tag.invariant c.loop-tag-test.false c.deref-tag-items.ensures.value c.in_ok-once.ensures c.deref.ensures.value
