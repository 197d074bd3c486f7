-- The rules within one more of the sender's rules are added.
use Rattle.std.proofs.Common.{◌≤◌, ◌+◌, refl, arith, ap, sym, ◌∙◌, drop, length}
use Rattle.classifier.proofs.AddLemmas.{add_lines_more}
use Rattle.classifier.specs.Lines.{add_lines}
use Rattle.block_build.proofs.BoundLemmas.{Member-got, member_meets}
use Rattle.block_build.specs.Spreads.{blocks, within_rule}
use Rattle.block_build.proofs.spread.spread_all.Goals as goal

pub returns-then-len-limit : goal.returns-then-len-limit
returns-then-len-limit c =
    let grown = c.in_ok-push_within.ensures.grown in
    let stands = Member-got c.args.xs.now c.loop-x.x-index c.x-item.result c.loop-x-test.true c.x-item.is in
    record {
      whole_within = λ within. absurd (omega (arith, c.len.ensures, c.push_within.new.lines.ok, c.if-len-limit.true, within));
      differ = grown.differ c.loop-x.invariant.differ;
      meets = λ atoms theirs own. grown.meets atoms theirs (member_meets atoms c.args.xs.now c.x-item.result stands own) (c.loop-x.invariant.meets atoms theirs own);
    }

pub loop-x-preserved : goal.loop-x-preserved
loop-x-preserved c =
    let grown = c.in_ok-push_within.ensures.grown in
    let stands = Member-got c.args.xs.now c.loop-x.x-index c.x-item.result c.loop-x-test.true c.x-item.is in
    let within : length c.push_within.new.lines.items ≤ c.args.limit = omega (arith, c.len.ensures, c.push_within.new.lines.ok, c.if-len-limit.false) in
    record {
      whole =
          ap (λ kept. add_lines kept (blocks c.args.best c.args.offers.now c.args.receivers.now (drop (c.loop-x.x-index + 1) c.args.xs.now))) (grown.whole_within within)
          ∙ sym (add_lines_more (λ xs. blocks c.args.best c.args.offers.now c.args.receivers.now xs) (λ x. within_rule c.args.best c.args.offers.now c.args.receivers.now x) (λ _ _. refl) c.loop-x.lines.items c.args.xs.now c.loop-x.x-index c.x-item.result c.loop-x-test.true c.x-item.is)
          ∙ c.loop-x.invariant.whole;
      differ = grown.differ c.loop-x.invariant.differ;
      meets = λ atoms theirs own. grown.meets atoms theirs (member_meets atoms c.args.xs.now c.x-item.result stands own) (c.loop-x.invariant.meets atoms theirs own);
      agrees = c.in_ok-push_within.ensures.agrees within;
    }
