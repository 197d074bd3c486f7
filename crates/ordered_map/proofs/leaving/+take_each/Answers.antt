-- Both sides, and the entry between them.
use Rattle.std.proofs.Common.{◌≡◌, ◌≤◌, ◌<◌, ◌+◌, ◌^◌, ◌∷◌, ◌++◌, length, sym, ap, subst, ◌∙◌, rules, arith, IsTrue, refl, List, [], nat_eq}
use Rattle.std.proofs.lemmas.Bool.{eqb-true}
use Rattle.std.specs.Prelude.{true, false}
use Rattle.std.specs.FinMap.Entries.{is_sorted}
use Rattle.std.specs.declared.cmp.Ordering.{Ordering}
use Rattle.ordered_map.specs.Entries.{entries_of, node_entries, without_each}
use Rattle.ordered_map.specs.Parted.{IsParted}
use Rattle.ordered_map.specs.Weights.{weigh}
use Rattle.ordered_map.proofs.EachLemmas.{none_without, parted_beside, parted_here, sorted_behind}
use Rattle.ordered_map.proofs.SplitLemmas.{length_parts, sorted_back, sorted_front}
use Rattle.ordered_map.proofs.WeightLemmas.{weigh_parts}
use Rattle.ordered_map.proofs.SizeLemmas.{still_counted, told_parts, told_then, up_from, up_to}
use Rattle.ordered_map.proofs.leaving.+take_each.Goals as goal

no_keys : {K X : Type 0} (R : K → K → Ordering) (ks : List K) (es : List (K × X)) → nat_eq (length ks) 0 ≡ true → es ≡ without_each R ks es
no_keys R [] es none = refl
no_keys R (k ∷ ks) es none = let same = eqb-true (length (k ∷ ks)) 0 none in absurd (omega (arith, same))

pub returns-then-is_empty-clause-entries : goal.returns-then-is_empty-clause-entries
returns-then-is_empty-clause-entries g t c = no_keys g.K.Ord.cmp c.args.keys.now (entries_of c.args.tree.now) (sym c.is_empty.ensures ∙ c.if-is_empty.true)

pub take_each-requires : goal.take_each-requires
take_each-requires g t c κs within =
    let whole : entries_of c.args.tree.now ≡ entries_of c.in-Full.left ++ (c.in-Full.held, c.in-Full.value) ∷ (c.in-Full.others ++ entries_of c.in-Full.right) = ap entries_of c.in-Fork.is ∙ ap node_entries (sym c.deref_mut.ensures.value ∙ c.in-Full.is) in
    let size = ap length whole ∙ length_parts (entries_of c.in-Full.left) (c.in-Full.held, c.in-Full.value) c.in-Full.others (entries_of c.in-Full.right) in
    let weight = ap (weigh g.T.Tally.weight) whole ∙ weigh_parts g.T.Tally.weight (entries_of c.in-Full.left) (c.in-Full.held, c.in-Full.value) c.in-Full.others (entries_of c.in-Full.right) in
    let rising : IsTrue (is_sorted g.K.Ord.cmp (entries_of c.in-Full.left)) = sorted_front g.K.Ord.cmp (entries_of c.in-Full.left) _ (ap (is_sorted g.K.Ord.cmp) (sym whole) ∙ c.requires.rising) in
    let shorter : length (entries_of c.in-Full.left) < length (entries_of c.args.tree.now) = omega (arith, size) in
    let count : length (entries_of c.in-Full.left) ≤ c.args.count.now = omega (arith, size, c.requires.count) in
    let few : g.T.Tally.total c.args.tally.now + weigh g.T.Tally.weight (entries_of c.in-Full.left) < 2 ^ 64 = omega (arith, weight, c.requires.few) in
    let keys = c.part-parted.ensures.low_rise in
    search rules

pub take_among-beyond-requires : goal.take_among-beyond-requires
take_among-beyond-requires g t c =
    let whole : entries_of c.args.tree.now ≡ entries_of c.in-Full.left ++ (c.in-Full.held, c.in-Full.value) ∷ (c.in-Full.others ++ entries_of c.in-Full.right) = ap entries_of c.in-Fork.is ∙ ap node_entries (sym c.deref_mut.ensures.value ∙ c.in-Full.is) in
    let size = ap length whole ∙ length_parts (entries_of c.in-Full.left) (c.in-Full.held, c.in-Full.value) c.in-Full.others (entries_of c.in-Full.right) in
    let weight = ap (weigh g.T.Tally.weight) whole ∙ weigh_parts g.T.Tally.weight (entries_of c.in-Full.left) (c.in-Full.held, c.in-Full.value) c.in-Full.others (entries_of c.in-Full.right) in
    let behind = sorted_behind g.K.Ord.cmp g.met.K.Ord.total (entries_of c.in-Full.left) (c.in-Full.held, c.in-Full.value) (c.in-Full.others ++ entries_of c.in-Full.right) (ap (is_sorted g.K.Ord.cmp) (sym whole) ∙ c.requires.rising) in
    record {
      rising = sorted_front g.K.Ord.cmp c.in-Full.others (entries_of c.in-Full.right) behind;
      keys = c.part-parted.ensures.high_rise;
      count = omega (arith, size, c.take_each.ensures.count, c.requires.count);
      few = omega (arith, weight, c.take_each.ensures.tally, c.requires.few);
    }

pub take_each-requires-in-Full : goal.take_each-requires-in-Full
take_each-requires-in-Full g t c κs within =
    let whole : entries_of c.args.tree.now ≡ entries_of c.in-Full.left ++ (c.in-Full.held, c.in-Full.value) ∷ (c.in-Full.others ++ entries_of c.in-Full.right) = ap entries_of c.in-Fork.is ∙ ap node_entries (sym c.deref_mut.ensures.value ∙ c.in-Full.is) in
    let size = ap length whole ∙ length_parts (entries_of c.in-Full.left) (c.in-Full.held, c.in-Full.value) c.in-Full.others (entries_of c.in-Full.right) in
    let weight = ap (weigh g.T.Tally.weight) whole ∙ weigh_parts g.T.Tally.weight (entries_of c.in-Full.left) (c.in-Full.held, c.in-Full.value) c.in-Full.others (entries_of c.in-Full.right) in
    let behind = sorted_behind g.K.Ord.cmp g.met.K.Ord.total (entries_of c.in-Full.left) (c.in-Full.held, c.in-Full.value) (c.in-Full.others ++ entries_of c.in-Full.right) (ap (is_sorted g.K.Ord.cmp) (sym whole) ∙ c.requires.rising) in
    let rising : IsTrue (is_sorted g.K.Ord.cmp (entries_of c.in-Full.right)) = sorted_back g.K.Ord.cmp c.in-Full.others (entries_of c.in-Full.right) behind in
    let shorter : length (entries_of c.in-Full.right) < length (entries_of c.args.tree.now) = omega (arith, size) in
    let count : length (entries_of c.in-Full.right) ≤ c.take_among-beyond.new.count = omega (arith, size, c.take_each.ensures.count, c.take_among-beyond.ensures.count, c.requires.count) in
    let few : g.T.Tally.total c.take_among-beyond.new.tally + weigh g.T.Tally.weight (entries_of c.in-Full.right) < 2 ^ 64 = omega (arith, weight, c.take_each.ensures.tally, c.take_among-beyond.ensures.tally, c.requires.few) in
    let keys = c.take_among-beyond.ensures.keys in
    search rules

pub returns-in-Empty-clause-entries : goal.returns-in-Empty-clause-entries
returns-in-Empty-clause-entries g t c =
    let none = ap entries_of c.in-Empty.is in
    none ∙ sym (ap (without_each g.K.Ord.cmp c.args.keys.now) none ∙ none_without g.K.Ord.cmp g.met.K.Ord.total c.args.keys.now)

pub returns-in-Blank-clause-entries : goal.returns-in-Blank-clause-entries
returns-in-Blank-clause-entries g t c =
    let none = ap node_entries c.in-Blank.is in
    let tree = ap entries_of c.in-Fork.is ∙ ap node_entries (sym c.deref_mut.ensures.value) in
    none ∙ sym (ap (without_each g.K.Ord.cmp c.args.keys.now) (tree ∙ none) ∙ none_without g.K.Ord.cmp g.met.K.Ord.total c.args.keys.now)

pub returns-then-parted-clause-entries : goal.returns-then-parted-clause-entries
returns-then-parted-clause-entries g t c =
    let whole : entries_of c.args.tree.now ≡ entries_of c.in-Full.left ++ (c.in-Full.held, c.in-Full.value) ∷ (c.in-Full.others ++ entries_of c.in-Full.right) = ap entries_of c.in-Fork.is ∙ ap node_entries (sym c.deref_mut.ensures.value ∙ c.in-Full.is) in
    let parted : IsParted g.K.Ord.cmp c.in-Full.held c.args.keys.now c.part-parted.result.lesser.now true c.part-parted.result.greater.now = subst (λ b. IsParted g.K.Ord.cmp c.in-Full.held c.args.keys.now c.part-parted.result.lesser.now b c.part-parted.result.greater.now) c.if-parted.true c.part-parted.ensures in
    c.drop_root.ensures.entries
    ∙ (λ i. c.take_each.ensures.entries i ++ (c.take_among-beyond.ensures.entries i ++ c.take_each-in-Full.ensures.entries i))
    ∙ sym (ap (without_each g.K.Ord.cmp c.args.keys.now) whole
    ∙ parted_here g.K.Ord.cmp g.met.K.Ord.total c.args.keys.now c.part-parted.result.lesser.now c.part-parted.result.greater.now c.take_among-beyond.result.now (entries_of c.in-Full.left) (c.in-Full.held, c.in-Full.value) c.in-Full.others (entries_of c.in-Full.right)
    (ap (is_sorted g.K.Ord.cmp) (sym whole) ∙ c.requires.rising) c.take_among-beyond.ensures.beyond parted)

pub returns-else-parted-clause-entries : goal.returns-else-parted-clause-entries
returns-else-parted-clause-entries g t c =
    let whole : entries_of c.args.tree.now ≡ entries_of c.in-Full.left ++ (c.in-Full.held, c.in-Full.value) ∷ (c.in-Full.others ++ entries_of c.in-Full.right) = ap entries_of c.in-Fork.is ∙ ap node_entries (sym c.deref_mut.ensures.value ∙ c.in-Full.is) in
    let parted : IsParted g.K.Ord.cmp c.in-Full.held c.args.keys.now c.part-parted.result.lesser.now false c.part-parted.result.greater.now = subst (λ b. IsParted g.K.Ord.cmp c.in-Full.held c.args.keys.now c.part-parted.result.lesser.now b c.part-parted.result.greater.now) c.if-parted.false c.part-parted.ensures in
    c.level.ensures
    ∙ (λ i. c.take_each.ensures.entries i ++ (c.in-Full.held, c.in-Full.value) ∷ (c.take_among-beyond.ensures.entries i ++ c.take_each-in-Full.ensures.entries i))
    ∙ sym (ap (without_each g.K.Ord.cmp c.args.keys.now) whole
    ∙ parted_beside g.K.Ord.cmp g.met.K.Ord.total c.args.keys.now c.part-parted.result.lesser.now c.part-parted.result.greater.now c.take_among-beyond.result.now (entries_of c.in-Full.left) (c.in-Full.held, c.in-Full.value) c.in-Full.others (entries_of c.in-Full.right)
    (ap (is_sorted g.K.Ord.cmp) (sym whole) ∙ c.requires.rising) c.take_among-beyond.ensures.beyond parted)

pub returns-then-is_empty-clause-count : goal.returns-then-is_empty-clause-count
returns-then-is_empty-clause-count g t c = refl

pub returns-then-is_empty-clause-tally : goal.returns-then-is_empty-clause-tally
returns-then-is_empty-clause-tally g t c = refl

pub returns-then-is_empty-clause-room : goal.returns-then-is_empty-clause-room
returns-then-is_empty-clause-room g t c = up_to _ _ refl

pub part-parted-requires : goal.part-parted-requires
part-parted-requires g t c = c.requires.keys

pub drop_root-requires-clause-count : goal.drop_root-requires-clause-count
drop_root-requires-clause-count g t c =
    let whole : entries_of c.args.tree.now ≡ entries_of c.in-Full.left ++ (c.in-Full.held, c.in-Full.value) ∷ (c.in-Full.others ++ entries_of c.in-Full.right) = ap entries_of c.in-Fork.is ∙ ap node_entries (sym c.deref_mut.ensures.value ∙ c.in-Full.is) in
    let both : c.take_each-in-Full.new.count + length (entries_of c.args.tree.now) ≡ c.args.count.now + length (entries_of c.take_each.new.tree ++ (c.in-Full.held, c.in-Full.value) ∷ (c.take_among-beyond.new.others ++ entries_of c.take_each-in-Full.new.tree)) = ap (λ n. c.take_each-in-Full.new.count + n) (ap length whole ∙ length_parts (entries_of c.in-Full.left) (c.in-Full.held, c.in-Full.value) c.in-Full.others (entries_of c.in-Full.right)) ∙ told_parts c.args.count.now c.take_each.new.count c.take_among-beyond.new.count c.take_each-in-Full.new.count (length (entries_of c.in-Full.left)) (length (entries_of c.take_each.new.tree)) (length c.in-Full.others) (length c.take_among-beyond.new.others) (length (entries_of c.in-Full.right)) (length (entries_of c.take_each-in-Full.new.tree)) 1 c.take_each.ensures.count c.take_among-beyond.ensures.count c.take_each-in-Full.ensures.count ∙ sym (ap (λ n. c.args.count.now + n) (length_parts (entries_of c.take_each.new.tree) (c.in-Full.held, c.in-Full.value) c.take_among-beyond.new.others (entries_of c.take_each-in-Full.new.tree))) in
    still_counted both c.requires.count

pub drop_root-requires-clause-few : goal.drop_root-requires-clause-few
drop_root-requires-clause-few g t c =
    let whole : entries_of c.args.tree.now ≡ entries_of c.in-Full.left ++ (c.in-Full.held, c.in-Full.value) ∷ (c.in-Full.others ++ entries_of c.in-Full.right) = ap entries_of c.in-Fork.is ∙ ap node_entries (sym c.deref_mut.ensures.value ∙ c.in-Full.is) in
    let both : g.T.Tally.total c.take_each-in-Full.new.tally + weigh g.T.Tally.weight (entries_of c.take_each.new.tree ++ (c.in-Full.held, c.in-Full.value) ∷ (c.take_among-beyond.new.others ++ entries_of c.take_each-in-Full.new.tree)) ≡ g.T.Tally.total c.args.tally.now + weigh g.T.Tally.weight (entries_of c.args.tree.now) = ap (λ n. g.T.Tally.total c.take_each-in-Full.new.tally + n) (weigh_parts g.T.Tally.weight (entries_of c.take_each.new.tree) (c.in-Full.held, c.in-Full.value) c.take_among-beyond.new.others (entries_of c.take_each-in-Full.new.tree)) ∙ told_parts (g.T.Tally.total c.args.tally.now) (g.T.Tally.total c.take_each.new.tally) (g.T.Tally.total c.take_among-beyond.new.tally) (g.T.Tally.total c.take_each-in-Full.new.tally) (weigh g.T.Tally.weight (entries_of c.take_each.new.tree)) (weigh g.T.Tally.weight (entries_of c.in-Full.left)) (weigh g.T.Tally.weight c.take_among-beyond.new.others) (weigh g.T.Tally.weight c.in-Full.others) (weigh g.T.Tally.weight (entries_of c.take_each-in-Full.new.tree)) (weigh g.T.Tally.weight (entries_of c.in-Full.right)) (g.T.Tally.weight c.in-Full.value) c.take_each.ensures.tally c.take_among-beyond.ensures.tally c.take_each-in-Full.ensures.tally ∙ sym (ap (λ n. g.T.Tally.total c.args.tally.now + n) (ap (weigh g.T.Tally.weight) whole ∙ weigh_parts g.T.Tally.weight (entries_of c.in-Full.left) (c.in-Full.held, c.in-Full.value) c.in-Full.others (entries_of c.in-Full.right))) in
    subst (λ n. n < 2 ^ 64) (sym both) c.requires.few

pub returns-in-Empty-clause-count : goal.returns-in-Empty-clause-count
returns-in-Empty-clause-count g t c = refl

pub returns-in-Empty-clause-tally : goal.returns-in-Empty-clause-tally
returns-in-Empty-clause-tally g t c = refl

pub returns-in-Empty-clause-room : goal.returns-in-Empty-clause-room
returns-in-Empty-clause-room g t c = up_to _ _ refl

pub returns-in-Blank-clause-count : goal.returns-in-Blank-clause-count
returns-in-Blank-clause-count g t c = ap (λ es. c.args.count.now + length es) (ap entries_of c.in-Fork.is ∙ ap node_entries (sym c.deref_mut.ensures.value))

pub returns-in-Blank-clause-tally : goal.returns-in-Blank-clause-tally
returns-in-Blank-clause-tally g t c = ap (λ es. g.T.Tally.total c.args.tally.now + weigh g.T.Tally.weight es) (sym (ap entries_of c.in-Fork.is ∙ ap node_entries (sym c.deref_mut.ensures.value)))

pub returns-in-Blank-clause-room : goal.returns-in-Blank-clause-room
returns-in-Blank-clause-room g t c = up_to _ _ refl

pub returns-then-parted-clause-count : goal.returns-then-parted-clause-count
returns-then-parted-clause-count g t c =
    let whole : entries_of c.args.tree.now ≡ entries_of c.in-Full.left ++ (c.in-Full.held, c.in-Full.value) ∷ (c.in-Full.others ++ entries_of c.in-Full.right) = ap entries_of c.in-Fork.is ∙ ap node_entries (sym c.deref_mut.ensures.value ∙ c.in-Full.is) in
    let both : c.take_each-in-Full.new.count + length (entries_of c.args.tree.now) ≡ c.args.count.now + length (entries_of c.take_each.new.tree ++ (c.in-Full.held, c.in-Full.value) ∷ (c.take_among-beyond.new.others ++ entries_of c.take_each-in-Full.new.tree)) = ap (λ n. c.take_each-in-Full.new.count + n) (ap length whole ∙ length_parts (entries_of c.in-Full.left) (c.in-Full.held, c.in-Full.value) c.in-Full.others (entries_of c.in-Full.right)) ∙ told_parts c.args.count.now c.take_each.new.count c.take_among-beyond.new.count c.take_each-in-Full.new.count (length (entries_of c.in-Full.left)) (length (entries_of c.take_each.new.tree)) (length c.in-Full.others) (length c.take_among-beyond.new.others) (length (entries_of c.in-Full.right)) (length (entries_of c.take_each-in-Full.new.tree)) 1 c.take_each.ensures.count c.take_among-beyond.ensures.count c.take_each-in-Full.ensures.count ∙ sym (ap (λ n. c.args.count.now + n) (length_parts (entries_of c.take_each.new.tree) (c.in-Full.held, c.in-Full.value) c.take_among-beyond.new.others (entries_of c.take_each-in-Full.new.tree))) in
    told_then c.args.count.now c.take_each-in-Full.new.count c.drop_root.new.count (length (entries_of c.args.tree.now)) (length (entries_of c.take_each.new.tree ++ (c.in-Full.held, c.in-Full.value) ∷ (c.take_among-beyond.new.others ++ entries_of c.take_each-in-Full.new.tree))) (length (entries_of c.drop_root.new.tree)) both c.drop_root.ensures.count

pub returns-then-parted-clause-tally : goal.returns-then-parted-clause-tally
returns-then-parted-clause-tally g t c =
    let whole : entries_of c.args.tree.now ≡ entries_of c.in-Full.left ++ (c.in-Full.held, c.in-Full.value) ∷ (c.in-Full.others ++ entries_of c.in-Full.right) = ap entries_of c.in-Fork.is ∙ ap node_entries (sym c.deref_mut.ensures.value ∙ c.in-Full.is) in
    let both : g.T.Tally.total c.take_each-in-Full.new.tally + weigh g.T.Tally.weight (entries_of c.take_each.new.tree ++ (c.in-Full.held, c.in-Full.value) ∷ (c.take_among-beyond.new.others ++ entries_of c.take_each-in-Full.new.tree)) ≡ g.T.Tally.total c.args.tally.now + weigh g.T.Tally.weight (entries_of c.args.tree.now) = ap (λ n. g.T.Tally.total c.take_each-in-Full.new.tally + n) (weigh_parts g.T.Tally.weight (entries_of c.take_each.new.tree) (c.in-Full.held, c.in-Full.value) c.take_among-beyond.new.others (entries_of c.take_each-in-Full.new.tree)) ∙ told_parts (g.T.Tally.total c.args.tally.now) (g.T.Tally.total c.take_each.new.tally) (g.T.Tally.total c.take_among-beyond.new.tally) (g.T.Tally.total c.take_each-in-Full.new.tally) (weigh g.T.Tally.weight (entries_of c.take_each.new.tree)) (weigh g.T.Tally.weight (entries_of c.in-Full.left)) (weigh g.T.Tally.weight c.take_among-beyond.new.others) (weigh g.T.Tally.weight c.in-Full.others) (weigh g.T.Tally.weight (entries_of c.take_each-in-Full.new.tree)) (weigh g.T.Tally.weight (entries_of c.in-Full.right)) (g.T.Tally.weight c.in-Full.value) c.take_each.ensures.tally c.take_among-beyond.ensures.tally c.take_each-in-Full.ensures.tally ∙ sym (ap (λ n. g.T.Tally.total c.args.tally.now + n) (ap (weigh g.T.Tally.weight) whole ∙ weigh_parts g.T.Tally.weight (entries_of c.in-Full.left) (c.in-Full.held, c.in-Full.value) c.in-Full.others (entries_of c.in-Full.right))) in
    c.drop_root.ensures.tally ∙ both

pub returns-then-parted-clause-room : goal.returns-then-parted-clause-room
returns-then-parted-clause-room g t c = up_from (up_from c.take_each.ensures.room c.take_each-in-Full.ensures.room) c.drop_root.ensures.room

pub returns-else-parted-clause-count : goal.returns-else-parted-clause-count
returns-else-parted-clause-count g t c =
    let whole : entries_of c.args.tree.now ≡ entries_of c.in-Full.left ++ (c.in-Full.held, c.in-Full.value) ∷ (c.in-Full.others ++ entries_of c.in-Full.right) = ap entries_of c.in-Fork.is ∙ ap node_entries (sym c.deref_mut.ensures.value ∙ c.in-Full.is) in
    let both : c.take_each-in-Full.new.count + length (entries_of c.args.tree.now) ≡ c.args.count.now + length (entries_of c.take_each.new.tree ++ (c.in-Full.held, c.in-Full.value) ∷ (c.take_among-beyond.new.others ++ entries_of c.take_each-in-Full.new.tree)) = ap (λ n. c.take_each-in-Full.new.count + n) (ap length whole ∙ length_parts (entries_of c.in-Full.left) (c.in-Full.held, c.in-Full.value) c.in-Full.others (entries_of c.in-Full.right)) ∙ told_parts c.args.count.now c.take_each.new.count c.take_among-beyond.new.count c.take_each-in-Full.new.count (length (entries_of c.in-Full.left)) (length (entries_of c.take_each.new.tree)) (length c.in-Full.others) (length c.take_among-beyond.new.others) (length (entries_of c.in-Full.right)) (length (entries_of c.take_each-in-Full.new.tree)) 1 c.take_each.ensures.count c.take_among-beyond.ensures.count c.take_each-in-Full.ensures.count ∙ sym (ap (λ n. c.args.count.now + n) (length_parts (entries_of c.take_each.new.tree) (c.in-Full.held, c.in-Full.value) c.take_among-beyond.new.others (entries_of c.take_each-in-Full.new.tree))) in
    both ∙ sym (ap (λ es. c.args.count.now + length es) c.level.ensures)

pub returns-else-parted-clause-tally : goal.returns-else-parted-clause-tally
returns-else-parted-clause-tally g t c =
    let whole : entries_of c.args.tree.now ≡ entries_of c.in-Full.left ++ (c.in-Full.held, c.in-Full.value) ∷ (c.in-Full.others ++ entries_of c.in-Full.right) = ap entries_of c.in-Fork.is ∙ ap node_entries (sym c.deref_mut.ensures.value ∙ c.in-Full.is) in
    let both : g.T.Tally.total c.take_each-in-Full.new.tally + weigh g.T.Tally.weight (entries_of c.take_each.new.tree ++ (c.in-Full.held, c.in-Full.value) ∷ (c.take_among-beyond.new.others ++ entries_of c.take_each-in-Full.new.tree)) ≡ g.T.Tally.total c.args.tally.now + weigh g.T.Tally.weight (entries_of c.args.tree.now) = ap (λ n. g.T.Tally.total c.take_each-in-Full.new.tally + n) (weigh_parts g.T.Tally.weight (entries_of c.take_each.new.tree) (c.in-Full.held, c.in-Full.value) c.take_among-beyond.new.others (entries_of c.take_each-in-Full.new.tree)) ∙ told_parts (g.T.Tally.total c.args.tally.now) (g.T.Tally.total c.take_each.new.tally) (g.T.Tally.total c.take_among-beyond.new.tally) (g.T.Tally.total c.take_each-in-Full.new.tally) (weigh g.T.Tally.weight (entries_of c.take_each.new.tree)) (weigh g.T.Tally.weight (entries_of c.in-Full.left)) (weigh g.T.Tally.weight c.take_among-beyond.new.others) (weigh g.T.Tally.weight c.in-Full.others) (weigh g.T.Tally.weight (entries_of c.take_each-in-Full.new.tree)) (weigh g.T.Tally.weight (entries_of c.in-Full.right)) (g.T.Tally.weight c.in-Full.value) c.take_each.ensures.tally c.take_among-beyond.ensures.tally c.take_each-in-Full.ensures.tally ∙ sym (ap (λ n. g.T.Tally.total c.args.tally.now + n) (ap (weigh g.T.Tally.weight) whole ∙ weigh_parts g.T.Tally.weight (entries_of c.in-Full.left) (c.in-Full.held, c.in-Full.value) c.in-Full.others (entries_of c.in-Full.right))) in
    ap (λ es. g.T.Tally.total c.take_each-in-Full.new.tally + weigh g.T.Tally.weight es) c.level.ensures ∙ both

pub returns-else-parted-clause-room : goal.returns-else-parted-clause-room
returns-else-parted-clause-room g t c = up_from c.take_each.ensures.room c.take_each-in-Full.ensures.room
