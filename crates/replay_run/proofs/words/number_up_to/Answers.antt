use Rattle.std.proofs.Common.{rules, arith, ap, ◌∙◌, sym, drop, ◌+◌, ◌*◌, ◌-◌, ◌≡◌, true, get_or, nat_le}
use Rattle.grammar.specs.Tokens.{is_digit}
use Rattle.events.specs.Lines.{only_if}
use Rattle.replay_text.proofs.Numerals.{number_more, number_above}
use Rattle.replay_run.proofs.words.number_up_to.Goals as goal

pub returns-then-value-from : goal.returns-then-value-from
returns-then-value-from c =
    let digits = c.args.digits.now in
    let i = c.loop-digit.digit-index in
    let next = 10 * c.loop-digit.value + (get_or digits i 0 - 48) in
    let digit : is_digit (get_or c.args.digits.now c.loop-digit.digit-index 0) ≡ true = search rules in
    let more = number_more c.loop-digit.value digits i (omega arith) digit in
    sym (ap (only_if (λ n. nat_le n c.args.high)) (c.loop-digit.invariant.1 ∙ more) ∙ number_above c.args.high next (drop (i + 1) digits) (omega arith))
