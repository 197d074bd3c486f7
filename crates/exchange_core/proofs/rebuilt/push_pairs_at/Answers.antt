use Rattle.std.proofs.Common.{◌≡◌, ◌++◌, ◌∷◌, [], filter, length, sym, ap, ◌∙◌, refl, ◌<◌, arith, append_assoc}
use Rattle.std.specs.FinMap.{keys}
use Rattle.std.proofs.lemmas.List.{append-nil}
use Rattle.net_types.proofs.RisingLemmas.{keys-IsRising}
use Rattle.net_types.specs.Keys.{pair_cmp}
use Rattle.net_types.specs.declared.rule.Pair.{Pair}
use Rattle.exchange_core.proofs.PortPairs.{all_later, none_later, one_later}
use Rattle.exchange_core.specs.Rebuilt.{is_later}
use Rattle.exchange_core.proofs.rebuilt.push_pairs_at.Goals as goal

pub loop-pair-init : goal.loop-pair-init
loop-pair-init c =
    let last : Pair = record { port = c.args.port; tag = record { 0 = 0 } } in
    ap (λ xs. c.args.pairs.now.items ++ xs) (all_later c.args.switch.now.table c.args.port last refl refl c.requires)

pub loop-pair-smaller : goal.loop-pair-smaller
loop-pair-smaller c =
    let ks = keys c.args.switch.now.table in
    let more : length (filter (is_later c.loop-pair.last) ks) ≡ length (c.in-Some.pair ∷ filter (is_later c.in-Some.pair) ks) =
    ap length (one_later c.loop-pair.last c.in-Some.pair ks (keys-IsRising pair_cmp c.args.switch.now.table) (sym c.next_at.ensures ∙ c.in-Some.is)) in
    let less : length (filter (is_later c.in-Some.pair) ks) < length (filter (is_later c.loop-pair.last) ks) = rw more (omega arith) in
    less

pub loop-pair-preserved : goal.loop-pair-preserved
loop-pair-preserved c =
    let ks = keys c.args.switch.now.table in
    ap (λ xs. xs ++ filter (is_later c.in-Some.pair) ks) c.in_ok-push.ensures.items
    ∙ append_assoc c.loop-pair.pairs.items (c.in-Some.pair ∷ []) (filter (is_later c.in-Some.pair) ks)
    ∙ sym (ap (λ ys. c.loop-pair.pairs.items ++ ys) (one_later c.loop-pair.last c.in-Some.pair ks (keys-IsRising pair_cmp c.args.switch.now.table) (sym c.next_at.ensures ∙ c.in-Some.is)))
    ∙ c.loop-pair.invariant

pub returns : goal.returns
returns c =
    let ks = keys c.args.switch.now.table in
    sym (append-nil c.loop-pair.pairs.items) ∙ sym (ap (λ ys. c.loop-pair.pairs.items ++ ys) (none_later (is_later c.loop-pair.last) ks (sym c.next_at.ensures ∙ c.in_default.is))) ∙ c.loop-pair.invariant
