-- Each pair of the second list is in the set, or comes behind.
use Rattle.std.proofs.Common.{◌≡◌, IfOk, true, false, ◌+◌, ◌<◌, [], ◌∷◌, ◌++◌, drop, get_or, length, arith, rules, sym, ap, subst, ◌∙◌}
use Rattle.std.proofs.lemmas.List.{drop_more}
use Rattle.net_types.specs.Headers.{no_change}
use Rattle.net_types.specs.declared.headers.Loc.TheVariants.{Stay}
use Rattle.std.specs.HashSet.{contains}
use Rattle.classifier.specs.Gathered.{key_eq, key_of}
use Rattle.classifier.specs.Items.{is_among}
use Rattle.classifier.proofs.UnionLemmas.{all_joined, besides, besides_known, besides_new, joined-HasNoRepeats, none_joined}
use Rattle.classifier.proofs.gathering.joined.Goals as goal
use Rattle.classifier.proofs.gathering.joined.Goals.{then-not-contains+in_ok-push, else-not-contains}

pub loop-pair-preserved : goal.loop-pair-preserved
loop-pair-preserved c =
    let xs = c.args.first.now in
    let ys = c.args.second.now in
    let at = c.loop-pair.pair-index in
    let y = get_or ys at (no_change, Stay) in
    let whole = xs ++ besides xs ys in
    let within : at < length ys = (let same = ap length c.items-pair-items.ensures in let test = c.loop-pair-test.true in omega (arith, same, test)) in
    let left : c.loop-pair.pairs.items ++ besides xs (y ∷ drop (at + 1) ys) ≡ xs ++ besides xs ys =
    ap (λ zs. c.loop-pair.pairs.items ++ besides xs zs) (sym (drop_more ys at (no_change, Stay) within)) ∙ c.loop-pair.invariant in
    let is : get_or c.items-pair-items.result.now at (no_change, Stay) ≡ y = ap (λ zs. get_or zs at (no_change, Stay)) c.items-pair-items.ensures in
    let told : c.contains.result ≡ is_among xs y = c.contains.ensures ∙ ap (λ k. contains key_eq c.args.seen.now k) (c.key_of.ensures ∙ ap key_of is) ∙ c.requires y in
    elim c.if-not-contains.branch [
      | then-not-contains+in_ok-push w ↦
          let new : is_among xs y ≡ false = sym told ∙ (let fact = w.if-not-contains.true in search rules) in
          let pushed : c.if-not-contains.pairs.items ≡ c.loop-pair.pairs.items ++ y ∷ [] = ap (λ v. v.items) w.pairs-is ∙ w.in_ok-push.ensures.items ∙ ap (λ z. c.loop-pair.pairs.items ++ z ∷ []) is in
          subst (λ ps. ps ++ besides xs (drop (at + 1) ys) ≡ whole) (sym pushed) (besides_new c.loop-pair.pairs.items xs (drop (at + 1) ys) whole y left new)
      | else-not-contains w ↦
          let there : is_among xs y ≡ true = sym told ∙ (let fact = w.if-not-contains.false in search rules) in
          subst (λ ps. ps ++ besides xs (drop (at + 1) ys) ≡ whole) (sym (ap (λ v. v.items) w.pairs-is)) (besides_known c.loop-pair.pairs.items xs (drop (at + 1) ys) whole y left there)
    ]

pub returns-then-len : goal.returns-then-len
returns-then-len c =
    let made = all_joined c.loop-pair.pairs.items c.args.first.now c.args.second.now c.items-pair-items.result.now c.loop-pair.pair-index c.known-2.ensures c.items-pair-items.ensures c.loop-pair-test.false c.loop-pair.invariant in
    let long : length c.loop-pair.pairs.items ≡ length c.args.first.now =
    (let ok = c.loop-pair.pairs.ok in let counted = c.len-3.ensures in let same = c.if-len.true in let first = c.len-4.ensures in omega (arith, ok, counted, same, first)) in
    subst (λ all. IfOk c.copy.result (λ both. both ≡ all))
    (none_joined c.loop-pair.pairs.items c.args.first.now c.args.second.now c.known-2.ensures made long) c.copy.ensures

pub from_vec-requires : goal.from_vec-requires
from_vec-requires c =
    joined-HasNoRepeats c.loop-pair.pairs.items c.args.first.now c.args.second.now c.known.ensures
    (all_joined c.loop-pair.pairs.items c.args.first.now c.args.second.now c.items-pair-items.result.now c.loop-pair.pair-index c.known-2.ensures c.items-pair-items.ensures c.loop-pair-test.false c.loop-pair.invariant)

pub returns : goal.returns
returns c =
    c.from_vec.ensures
    ∙ all_joined c.loop-pair.pairs.items c.args.first.now c.args.second.now c.items-pair-items.result.now c.loop-pair.pair-index c.known-2.ensures c.items-pair-items.ensures c.loop-pair-test.false c.loop-pair.invariant
