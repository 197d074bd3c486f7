-- In the end all entries are lent.
use Rattle.std.proofs.Common.{◌≡◌, ◌≤◌, List, length, map, ap, ◌∙◌, arith}
use Rattle.std.proofs.lemmas.List.{take_all}
use Rattle.std.specs.Map.Iter.{deref_pair}
use Rattle.net_types.specs.declared.rule.Pair.{Pair}
use Rattle.net_types.specs.declared.rule.Rule.{Rule}
use Rattle.recompile.proofs.BuiltLemmas.{keys_are}
use Rattle.recompile.proofs.swap.Built.pairs.Goals as goal

pub returns : goal.returns
returns c =
    let own = c.self.inside.pairs.items in
    let lent = c.as_slice-pair-items.result.now in
    let pair_of : Pair × List Rule → Pair = λ e. e.0 in
    let far : length lent ≤ c.loop-pair.pair-index = (let end = c.loop-pair-test.false in omega (arith, end)) in
    let all : map deref_pair lent ≡ own =
    ap (map deref_pair) c.as_slice-pair-items.ensures.value ∙ c.in_ok-entries.ensures
    ∙ take_all c.len.result own (let len = c.len.ensures in omega (arith, len)) in
    c.from_vec.ensures ∙ c.loop-pair.invariant ∙ ap (λ es. map pair_of (map deref_pair es)) (take_all c.loop-pair.pair-index lent far) ∙ ap (map pair_of) all
    ∙ keys_are own c.self.invariant c.args.self.now c.self.view_is
