-- One more rule has its number.
use Rattle.std.proofs.Common.{◌≡◌, Some, [], ap, sym, subst, take, ◌∙◌}
use Rattle.std.specs.List.{slice_get}
use Rattle.classifier.specs.Lines.{line}
use Rattle.classifier.specs.Numbered.{AreNumbered}
use Rattle.block_build.proofs.FewLemmas.{numbered-more, received-more}
use Rattle.block_build.specs.Receivers.{received_items, received_lines}
use Rattle.block_build.proofs.given.given_by.Goals as goal

pub loop-y-preserved : goal.loop-y-preserved
loop-y-preserved c =
    let hop = c.args.hop in
    let i = c.loop-y.y-index in
    let y = c.y-item.result in
    let old = c.loop-y.table.lists.items in
    let lists = c.left_next.new.table.lists.items in
    let front = received_lines hop (take i c.args.lines.now) in
    let number : slice_get lists c.in_ok-last.last.number ≡ Some (received_items hop y.results) = c.in_ok-last.ensures.number ∙ ap (λ r. Some (received_items hop r)) c.in_ok-last.ensures.results in
    let numbers = numbered-more old lists front c.loop-y.numbers.items c.push.new.self.items (line (received_items hop y.results) y.cube) c.in_ok-last.last.number c.left_next.ensures.kept c.in_ok-push.ensures.items c.loop-y.invariant.numbered number in
    record {
      numbered = subst (λ ys. AreNumbered lists ys c.push.new.self.items) (sym (received-more hop c.args.lines.now i y c.loop-y-test.true c.y-item.is)) numbers;
      last = c.in_ok-last.ensures.number;
      none = c.left_next.ensures.kept c.in_ok-none.none [] c.loop-y.invariant.none;
    }
