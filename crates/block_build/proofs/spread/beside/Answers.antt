-- Where there is one rule and the receiver has one, both are joined.
use Rattle.std.proofs.Common.{sym, ap, ◌∙◌, subst}
use Rattle.block_build.proofs.AloneLemmas.{all_beside}
use Rattle.block_build.specs.Bounds.{IsSomeBeside}
use Rattle.block_build.specs.Spreads.{beside}
use Rattle.block_build.proofs.spread.beside.Goals as goal

pub returns-in_ok-more-in-Some : goal.returns-in_ok-more-in-Some
returns-in_ok-more-in-Some c =
    let rules = c.args.lines.items in
    let theirs = c.args.receiver.now.lines in
    subst (λ b. IsSomeBeside c.args.limit b c.args.lines.items c.args.receiver.now.lines c.in_ok-more-in-Some.more.items) (sym c.if-not-goes.false)
    (all_beside c.args.limit rules theirs c.in_ok-more-in-Some.more.items (c.in_ok-more-in-Some.ensures ∙ ap (beside c.args.lines.items) (sym c.in-Some.ensures)))
