-- In the end the exits of all results stand last.
use Rattle.std.proofs.Common.{◌≤◌, ◌++◌, ap, arith, drop, length, sym, ◌∙◌}
use Rattle.std.proofs.lemmas.List.{drop_all}
use Rattle.block_build.specs.Receivers.{exits_in}
use Rattle.block_build.proofs.ReceiveLemmas.{add_exits-apart, all_left}
use Rattle.block_build.proofs.receive.push_apart.Goals as goal

pub returns : goal.returns
returns c =
    let results = c.args.results.now in
    let before = c.args.pairs.now.items in
    let ended : length results ≤ c.loop-pair.pair-index = (let same = ap length c.items-pair-items.ensures in let test = c.loop-pair-test.false in omega (arith, same, test)) in
    all_left c.args.hop c.loop-pair.pairs.items (drop c.loop-pair.pair-index results) (before ++ exits_in c.args.hop results) (drop_all c.loop-pair.pair-index results ended) c.loop-pair.invariant
    ∙ ap (λ items. before ++ items) (sym (add_exits-apart c.args.hop results c.known.ensures c.requires))
