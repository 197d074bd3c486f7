use Rattle.std.proofs.Common.{◌≡◌, ◌+◌, ◌++◌, ◌∷◌, [], map, take, sym, ap, subst, ◌∙◌, arith}
use Rattle.std.proofs.lemmas.List.{length-map, length-take, map_more}
use Rattle.std.specs.Map.Iter.{deref_pair}
use Rattle.advert_queue.proofs.Fronts.{lent_few}
use Rattle.advert_queue.proofs.GoneLemmas.{leaving_next, leaving_small}
use Rattle.advert_queue.specs.Changes.{Change}
use Rattle.advert_queue.specs.Counts.{AreCounts, by_side}
use Rattle.advert_queue.specs.Leaving.{left, none_present}
use Rattle.advert_queue.proofs.leaving.leaving.Goals as goal

pub count_told-requires-clause-small : goal.count_told-requires-clause-small
count_told-requires-clause-small c =
    let items = c.as_slice-prefix-items.result.now in
    let front = take c.loop-prefix.prefix-index items in
    let many = lent_few deref_pair items c.args.count c.args.news.now.items (ap (map deref_pair) c.as_slice-prefix-items.ensures.value ∙ c.in_ok-firsts.ensures) in
    let short = length-take c.loop-prefix.prefix-index items in
    let same = length-map front deref_pair in
    leaving_small c.args.told.now.map (map deref_pair front) _ c.loop-prefix.invariant (let at = c.loop-prefix-test.true in omega (arith, same, short, many, at, c.ranges.count.fits))

pub loop-prefix-preserved : goal.loop-prefix-preserved
loop-prefix-preserved c =
    let items = c.as_slice-prefix-items.result.now in
    let item = c.loop-prefix-item.result in
    let x : Change = (item.0.now, item.1.now) in
    let more : map deref_pair (take (c.loop-prefix.prefix-index + 1) items) ≡ map deref_pair (take c.loop-prefix.prefix-index items) ++ x ∷ [] =
    map_more deref_pair items c.loop-prefix.prefix-index item c.loop-prefix-test.true ∙ ap (λ y. map deref_pair (take c.loop-prefix.prefix-index items) ++ deref_pair y ∷ []) (sym c.loop-prefix-item.is) in
    subst (λ (front : _). AreCounts c.count_told.new.counts.items (by_side (left c.args.told.now.map front) none_present)) (sym more)
    (leaving_next c.args.told.now.map (map deref_pair (take c.loop-prefix.prefix-index items)) x _ _ c.loop-prefix.invariant c.in_ok-count_told.ensures)
