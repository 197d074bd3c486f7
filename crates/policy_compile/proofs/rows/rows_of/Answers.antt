use Rattle.std.proofs.Common.{◌≡◌, ◌<◌, ◌+◌, ◌-◌, ◌/◌, ◌∙◌, ◌++◌, ◌∷◌, [], arith, ℕ, List, length, sym, ap, subst, take}
use Rattle.std.specs.List.{filter, slice_get}
use Rattle.std.proofs.lemmas.List.{length_push, take_more}
use Rattle.net_types.specs.Sets.{HasNoRepeats, Member, SameMembers}
use Rattle.net_types.proofs.RisingLemmas.{filter-Member}
use Rattle.net_types.proofs.SetLemmas
use Rattle.classifier.specs.declared.line.Line.{Line}
use Rattle.classifier.specs.Items.{Item}
use Rattle.classifier.specs.Meaning.{cubes_of}
use Rattle.classifier.proofs.ShapeLemmas.{cubes-push}
use Rattle.policy_compile.specs.Columns.{Places, given, set_at}
use Rattle.policy_compile.specs.Groups.{alone}
use Rattle.policy_compile.specs.Rows.{AreLists, AreNear, joined}
use Rattle.policy_compile.proofs.RowLemmas.{filter-once, lines-more, near-given}
use Rattle.policy_compile.proofs.rows.rows_of.Goals as goal

pub having-requires : goal.having-requires
having-requires c = λ n m.
    let inside = c.in_ok-nears.ensures.below n (subst (Member n) c.deref-in-loop-place-2.ensures.value m) in
    subst (λ (sets : List Places). n < length sets) (c.deref.ensures.value ∙ sym c.deref-in-loop-place.ensures.value) inside

pub results_of-requires-clause-inside : goal.results_of-requires-clause-inside
results_of-requires-clause-inside c = λ n m.
    let kept = filter-Member (λ (i : ℕ). set_at c.deref-in-loop-place.result.now i c.loop-place.place) c.deref-in-loop-place-2.result.now n (subst (Member n) c.in_ok-numbers.ensures m) in
    let inside = c.in_ok-nears.ensures.below n (subst (Member n) c.deref-in-loop-place-2.ensures.value kept.stands) in
    subst (λ l. n < l) (ap length c.deref.ensures.value ∙ sym c.loop-place.invariant.wide) inside

pub results_of-requires-clause-once : goal.results_of-requires-clause-once
results_of-requires-clause-once c =
    subst HasNoRepeats (sym c.in_ok-numbers.ensures) (filter-once (λ (i : ℕ). set_at c.deref-in-loop-place.result.now i c.loop-place.place) c.deref-in-loop-place-2.result.now (subst HasNoRepeats (sym c.deref-in-loop-place-2.ensures.value) c.in_ok-nears.ensures.once))

pub loop-place-preserved : goal.loop-place-preserved
loop-place-preserved c =
    let locations = c.args.locations.now in
    let cubes = c.args.cubes.now in
    let sets = c.args.columns.now.sets.sets.items in
    let columns = c.args.columns.now.columns.items in
    let n = c.loop-place.place in
    let lists = c.loop-place.rows in
    let nears = c.in_ok-nears.nears.items in
    let xs = c.loop-place.lines.items in
    let cube = c.index-cubes-place.result in
    let x : Line = record { cube = cube; results = c.in_ok-results.results } in
    let pushed : c.push.new.self.items ≡ xs ++ x ∷ [] = c.in_ok-push.ensures.items in
    let kept : c.results_of.new.self ≡ lists = c.in_ok-results.ensures.lists in
    let near : AreNear sets lists (n / 64) (length sets) nears = subst (λ (s : List Places). AreNear s lists (n / 64) (length s) nears) c.deref.ensures.value c.in_ok-nears.ensures in
    let numbers : c.in_ok-numbers.numbers.items ≡ filter (λ i. set_at sets i n) nears =
    c.in_ok-numbers.ensures ∙ ap (λ (s : List Places). filter (λ i. set_at s i n) c.deref-in-loop-place-2.result.now) c.deref-in-loop-place.ensures.value ∙ ap (filter (λ i. set_at sets i n)) c.deref-in-loop-place-2.ensures.value in
    let results : SameMembers x.results (alone locations (given sets columns n)) =
    SetLemmas.same_trans c.in_ok-results.ensures.results (SetLemmas.same_trans (SetLemmas.same_eq (ap (joined lists) numbers)) (near-given locations sets columns lists nears n c.loop-place.invariant.lists c.loop-place.invariant.wide near)) in
    let back : n + 1 - 1 ≡ n = omega arith in
    record {
      lists = subst (AreLists locations columns) (sym kept) c.loop-place.invariant.lists;
      wide = ap length kept ∙ c.loop-place.invariant.wide;
      near = λ _. subst (λ m. AreNear sets c.results_of.new.self (m / 64) (length sets) nears) (sym back) (subst (λ (ls : List (List Item)). AreNear sets ls (n / 64) (length sets) nears) (sym kept) near);
      long = ap length pushed ∙ length_push xs x ∙ ap (λ k. k + 1) c.loop-place.invariant.long;
      cubes = ap cubes_of pushed ∙ cubes-push xs x ∙ ap (λ ks. ks ++ cube ∷ []) c.loop-place.invariant.cubes ∙ ap (λ k. take n cubes ++ k ∷ []) c.index-cubes-place.is ∙ sym (take_more cubes n cube c.loop-place-test.true);
      gives = λ k y at.
          lines-more (λ j (z : Line). SameMembers z.results (alone locations (given sets columns j))) xs x c.loop-place.invariant.gives
          (subst (λ j. SameMembers x.results (alone locations (given sets columns j))) (sym c.loop-place.invariant.long) results) k y (ap (λ (zs : List Line). slice_get zs k) (sym pushed) ∙ at);
    }
