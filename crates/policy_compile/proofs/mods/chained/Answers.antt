use Rattle.std.proofs.Common.{◌≡◌, refl, ap, sym, ◌∙◌, ◌+◌, [], map, drop, arith, subst}
use Rattle.std.proofs.lemmas.List.{at_drop_all}
use Rattle.net_types.specs.Sets.{Member}
use Rattle.net_types.proofs.SetLemmas
use Rattle.policy_compile.specs.Sets.{adds, same_fields, assign_of, assigns_of, after, followed}
use Rattle.policy_compile.proofs.SetsLemmas.{blank, adds_more, fields-same}
use Rattle.policy_compile.proofs.ModsLemmas.{wide-keys, few-of}
use Rattle.policy_compile.proofs.mods.chained.Goals as goal

pub returns-then-len-gt-MOST : goal.returns-then-len-gt-MOST
returns-then-len-gt-MOST c =
    let firsts = c.args.firsts.now in
    let nexts = c.args.nexts.now in
    let rest = followed (drop (c.loop-first.first-index + 1) firsts) nexts in
    let keys = c.push_followed.new.sets.keys in
    let whole : adds same_fields keys rest ≡ adds same_fields [] (followed firsts nexts) =
    ap (λ kept. adds same_fields kept rest) c.in_ok-push_followed.ensures
    ∙ sym (adds_more same_fields (λ xs. followed xs nexts) (λ x. map (after x) nexts) (λ _ _. refl) c.loop-first.sets.keys firsts c.loop-first.first-index blank c.loop-first-test.true)
    ∙ c.loop-first.invariant in
    wide-keys keys (followed firsts nexts) c.len.ensures.unique
    (λ f k. (fields-same [] (followed firsts nexts)).onto f (subst (Member f) whole ((fields-same keys rest).back f (SetLemmas.Member-append_left keys rest f k))))
    (omega (arith, c.if-len-gt-MOST.true, c.len.ensures.len))

pub loop-first-preserved : goal.loop-first-preserved
loop-first-preserved c =
    let firsts = c.args.firsts.now in
    let nexts = c.args.nexts.now in
    ap (λ kept. adds same_fields kept (followed (drop (c.loop-first.first-index + 1) firsts) nexts)) c.in_ok-push_followed.ensures
    ∙ sym (adds_more same_fields (λ xs. followed xs nexts) (λ x. map (after x) nexts) (λ _ _. refl) c.loop-first.sets.keys firsts c.loop-first.first-index blank c.loop-first-test.true)
    ∙ c.loop-first.invariant

pub returns : goal.returns
returns c =
    let all = followed c.args.firsts.now c.args.nexts.now in
    few-of c.few.result c.loop-first.sets.keys (assigns_of all)
    (SetLemmas.same_map assign_of (SetLemmas.same_trans (SetLemmas.same_eq
    (sym (at_drop_all (λ xs. adds same_fields c.loop-first.sets.keys (followed xs c.args.nexts.now)) c.args.firsts.now c.loop-first.first-index (omega (arith, c.loop-first-test.false))) ∙ c.loop-first.invariant)) (fields-same [] all))) c.few.ensures
