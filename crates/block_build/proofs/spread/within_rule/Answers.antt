-- The rules beside those of one more receiver.
use Rattle.std.proofs.Common.{◌≤◌, arith, ap, ◌∙◌, length}
use Rattle.block_build.specs.Offers.{goes_to}
use Rattle.block_build.proofs.BoundLemmas.{Member-got, spread_more}
use Rattle.block_build.proofs.spread.within_rule.Goals as goal

pub returns-then-len-limit : goal.returns-then-len-limit
returns-then-len-limit c =
    let made = c.in_ok-lines-2.ensures in
    let stands = Member-got c.args.receivers.now c.loop-receiver.receiver-index c.receiver-item.result c.loop-receiver-test.true c.receiver-item.is in
    record {
      whole_within = λ within. absurd (omega (arith, c.len.ensures, c.in_ok-lines-2.lines.ok, c.if-len-limit.true, within));
      differ = made.differ c.loop-receiver.invariant.differ;
      meets = λ atoms theirs own. made.meets atoms (c.loop-receiver.invariant.meets atoms theirs own) (theirs c.receiver-item.result stands);
    }

pub loop-receiver-preserved : goal.loop-receiver-preserved
loop-receiver-preserved c =
    let made = c.in_ok-lines-2.ensures in
    let stands = Member-got c.args.receivers.now c.loop-receiver.receiver-index c.receiver-item.result c.loop-receiver-test.true c.receiver-item.is in
    let within : length c.in_ok-lines-2.lines.items ≤ c.args.limit = omega (arith, c.len.ensures, c.in_ok-lines-2.lines.ok, c.if-len-limit.false) in
    record {
      whole =
          spread_more c.args.left c.args.best c.args.x.now.results c.loop-receiver.lines.items c.in_ok-lines-2.lines.items c.args.receivers.now c.loop-receiver.receiver-index c.receiver-item.result c.goes_to-goes.result
          c.loop-receiver-test.true c.receiver-item.is
          (c.goes_to-goes.ensures ∙ ap (λ items. goes_to c.args.left c.args.best items c.who.result) c.items.ensures ∙ ap (goes_to c.args.left c.args.best c.args.x.now.results) c.who.ensures)
          (made.whole_within within)
          ∙ c.loop-receiver.invariant.whole;
      differ = made.differ c.loop-receiver.invariant.differ;
      meets = λ atoms theirs own. made.meets atoms (c.loop-receiver.invariant.meets atoms theirs own) (theirs c.receiver-item.result stands);
    }
