use Rattle.std.proofs.Common.{◌≡◌, ◌∷◌, ◌++◌, sym, ap, ◌∙◌, rules, arith, IsTrue, refl}
use Rattle.std.specs.FinMap.Entries.{find, is_sorted}
use Rattle.ordered_map.specs.Entries.{entries_of, node_entries, without}
use Rattle.ordered_map.proofs.SplitLemmas.{left_shorter, last_shorter, left_of, here_at, right_of, beyond_of, between_of, sorted_front}
use Rattle.ordered_map.proofs.SizeLemmas.{up_to}
use Rattle.ordered_map.proofs.change.+take_from.Goals as goal

pub take_from-side-requires : goal.take_from-side-requires
take_from-side-requires g t c κs within =
    let whole : entries_of c.args.tree.now ≡ entries_of c.in-Full.left ++ (c.in-Full.held, c.in-Full.value) ∷ (c.in-Full.others ++ entries_of c.in-Full.right) = ap entries_of c.in-Fork.is ∙ ap node_entries (sym c.deref_mut.ensures.value ∙ c.in-Full.is) in
    let split = left_of g.K.Ord.cmp g.met.K.Ord.total c.args.key.now _ _ _ (ap (is_sorted g.K.Ord.cmp) (sym whole) ∙ c.requires.rising) (sym c.cmp.ensures ∙ c.in-Less.is) in
    let rising : IsTrue (is_sorted g.K.Ord.cmp (entries_of c.in-Full.left)) = split.rising in
    let shorter = left_shorter _ _ _ _ whole in
    search rules

pub is_below-requires : goal.is_below-requires
is_below-requires g t c =
    let whole : entries_of c.args.tree.now ≡ entries_of c.in-Full.left ++ (c.in-Full.held, c.in-Full.value) ∷ (c.in-Full.others ++ entries_of c.in-Full.right) = ap entries_of c.in-Fork.is ∙ ap node_entries (sym c.deref_mut.ensures.value ∙ c.in-Full.is) in
    let split = right_of g.K.Ord.cmp g.met.K.Ord.total c.args.key.now _ _ _ (ap (is_sorted g.K.Ord.cmp) (sym whole) ∙ c.requires.rising) (sym c.cmp.ensures ∙ c.in-Greater.is) in
    record { rising = sorted_front g.K.Ord.cmp c.in-Full.others (entries_of c.in-Full.right) split.rising }

pub take_from-side-requires-then-is_below : goal.take_from-side-requires-then-is_below
take_from-side-requires-then-is_below g t c κs within =
    let whole : entries_of c.args.tree.now ≡ entries_of c.in-Full.left ++ (c.in-Full.held, c.in-Full.value) ∷ (c.in-Full.others ++ entries_of c.in-Full.right) = ap entries_of c.in-Fork.is ∙ ap node_entries (sym c.deref_mut.ensures.value ∙ c.in-Full.is) in
    let split = beyond_of g.K.Ord.cmp g.met.K.Ord.total c.args.key.now (entries_of c.in-Full.left) (c.in-Full.held, c.in-Full.value) c.in-Full.others (entries_of c.in-Full.right) (ap (is_sorted g.K.Ord.cmp) (sym whole) ∙ c.requires.rising) (sym c.cmp.ensures ∙ c.in-Greater.is) c.if-is_below.ensures.past in
    let rising : IsTrue (is_sorted g.K.Ord.cmp (entries_of c.in-Full.right)) = split.rising in
    let shorter = last_shorter (entries_of c.args.tree.now) (entries_of c.in-Full.left) _ c.in-Full.others (entries_of c.in-Full.right) whole in
    search rules

pub take-requires : goal.take-requires
take-requires g t c =
    let whole : entries_of c.args.tree.now ≡ entries_of c.in-Full.left ++ (c.in-Full.held, c.in-Full.value) ∷ (c.in-Full.others ++ entries_of c.in-Full.right) = ap entries_of c.in-Fork.is ∙ ap node_entries (sym c.deref_mut.ensures.value ∙ c.in-Full.is) in
    let split = right_of g.K.Ord.cmp g.met.K.Ord.total c.args.key.now _ _ _ (ap (is_sorted g.K.Ord.cmp) (sym whole) ∙ c.requires.rising) (sym c.cmp.ensures ∙ c.in-Greater.is) in
    record { rising = sorted_front g.K.Ord.cmp c.in-Full.others (entries_of c.in-Full.right) split.rising }

pub returns-in-Less-clause-value : goal.returns-in-Less-clause-value
returns-in-Less-clause-value g t c =
    let whole : entries_of c.args.tree.now ≡ entries_of c.in-Full.left ++ (c.in-Full.held, c.in-Full.value) ∷ (c.in-Full.others ++ entries_of c.in-Full.right) = ap entries_of c.in-Fork.is ∙ ap node_entries (sym c.deref_mut.ensures.value ∙ c.in-Full.is) in
    let split = left_of g.K.Ord.cmp g.met.K.Ord.total c.args.key.now _ _ _ (ap (is_sorted g.K.Ord.cmp) (sym whole) ∙ c.requires.rising) (sym c.cmp.ensures ∙ c.in-Less.is) in
    c.take_from-side.ensures.value ∙ sym split.find_is ∙ ap (find g.K.Ord.cmp c.args.key.now) (sym whole)

pub returns-in-Less-clause-entries : goal.returns-in-Less-clause-entries
returns-in-Less-clause-entries g t c =
    let whole : entries_of c.args.tree.now ≡ entries_of c.in-Full.left ++ (c.in-Full.held, c.in-Full.value) ∷ (c.in-Full.others ++ entries_of c.in-Full.right) = ap entries_of c.in-Fork.is ∙ ap node_entries (sym c.deref_mut.ensures.value ∙ c.in-Full.is) in
    let split = left_of g.K.Ord.cmp g.met.K.Ord.total c.args.key.now _ _ _ (ap (is_sorted g.K.Ord.cmp) (sym whole) ∙ c.requires.rising) (sym c.cmp.ensures ∙ c.in-Less.is) in
    let same = ap (without g.K.Ord.cmp c.args.key.now) whole ∙ split.without_is in
    c.rebalance.ensures ∙ ap (λ es. es ++ (c.in-Full.held, c.in-Full.value) ∷ (c.in-Full.others ++ entries_of c.in-Full.right)) c.take_from-side.ensures.entries ∙ sym same

pub returns-in-Equal-clause-value : goal.returns-in-Equal-clause-value
returns-in-Equal-clause-value g t c =
    let whole : entries_of c.args.tree.now ≡ entries_of c.in-Full.left ++ (c.in-Full.held, c.in-Full.value) ∷ (c.in-Full.others ++ entries_of c.in-Full.right) = ap entries_of c.in-Fork.is ∙ ap node_entries (sym c.deref_mut.ensures.value ∙ c.in-Full.is) in
    let split = here_at g.K.Ord.cmp g.met.K.Ord.total c.args.key.now _ _ _ (ap (is_sorted g.K.Ord.cmp) (sym whole) ∙ c.requires.rising) (sym c.cmp.ensures ∙ c.in-Equal.is) in
    let same = ap (find g.K.Ord.cmp c.args.key.now) whole ∙ split.find_is in
    grind (arith, same)

pub returns-in-Equal-clause-entries : goal.returns-in-Equal-clause-entries
returns-in-Equal-clause-entries g t c =
    let whole : entries_of c.args.tree.now ≡ entries_of c.in-Full.left ++ (c.in-Full.held, c.in-Full.value) ∷ (c.in-Full.others ++ entries_of c.in-Full.right) = ap entries_of c.in-Fork.is ∙ ap node_entries (sym c.deref_mut.ensures.value ∙ c.in-Full.is) in
    let split = here_at g.K.Ord.cmp g.met.K.Ord.total c.args.key.now _ _ _ (ap (is_sorted g.K.Ord.cmp) (sym whole) ∙ c.requires.rising) (sym c.cmp.ensures ∙ c.in-Equal.is) in
    let same = ap (without g.K.Ord.cmp c.args.key.now) whole ∙ split.without_is in
    grind (arith, same)

pub returns-then-is_below-clause-value : goal.returns-then-is_below-clause-value
returns-then-is_below-clause-value g t c =
    let whole : entries_of c.args.tree.now ≡ entries_of c.in-Full.left ++ (c.in-Full.held, c.in-Full.value) ∷ (c.in-Full.others ++ entries_of c.in-Full.right) = ap entries_of c.in-Fork.is ∙ ap node_entries (sym c.deref_mut.ensures.value ∙ c.in-Full.is) in
    let split = beyond_of g.K.Ord.cmp g.met.K.Ord.total c.args.key.now (entries_of c.in-Full.left) (c.in-Full.held, c.in-Full.value) c.in-Full.others (entries_of c.in-Full.right) (ap (is_sorted g.K.Ord.cmp) (sym whole) ∙ c.requires.rising) (sym c.cmp.ensures ∙ c.in-Greater.is) c.if-is_below.ensures.past in
    c.take_from-side-then-is_below.ensures.value ∙ sym split.find_is ∙ ap (find g.K.Ord.cmp c.args.key.now) (sym whole)

pub returns-then-is_below-clause-entries : goal.returns-then-is_below-clause-entries
returns-then-is_below-clause-entries g t c =
    let whole : entries_of c.args.tree.now ≡ entries_of c.in-Full.left ++ (c.in-Full.held, c.in-Full.value) ∷ (c.in-Full.others ++ entries_of c.in-Full.right) = ap entries_of c.in-Fork.is ∙ ap node_entries (sym c.deref_mut.ensures.value ∙ c.in-Full.is) in
    let split = beyond_of g.K.Ord.cmp g.met.K.Ord.total c.args.key.now (entries_of c.in-Full.left) (c.in-Full.held, c.in-Full.value) c.in-Full.others (entries_of c.in-Full.right) (ap (is_sorted g.K.Ord.cmp) (sym whole) ∙ c.requires.rising) (sym c.cmp.ensures ∙ c.in-Greater.is) c.if-is_below.ensures.past in
    let same = ap (without g.K.Ord.cmp c.args.key.now) whole ∙ split.without_is in
    c.rebalance-then-is_below.ensures ∙ ap (λ es. entries_of c.in-Full.left ++ (c.in-Full.held, c.in-Full.value) ∷ (c.in-Full.others ++ es)) c.take_from-side-then-is_below.ensures.entries ∙ sym same

pub returns-else-is_below-clause-value : goal.returns-else-is_below-clause-value
returns-else-is_below-clause-value g t c =
    let whole : entries_of c.args.tree.now ≡ entries_of c.in-Full.left ++ (c.in-Full.held, c.in-Full.value) ∷ (c.in-Full.others ++ entries_of c.in-Full.right) = ap entries_of c.in-Fork.is ∙ ap node_entries (sym c.deref_mut.ensures.value ∙ c.in-Full.is) in
    let split = between_of g.K.Ord.cmp g.met.K.Ord.total c.args.key.now (entries_of c.in-Full.left) (c.in-Full.held, c.in-Full.value) c.in-Full.others (entries_of c.in-Full.right) (ap (is_sorted g.K.Ord.cmp) (sym whole) ∙ c.requires.rising) (sym c.cmp.ensures ∙ c.in-Greater.is) (c.if-is_below.ensures.within (entries_of c.in-Full.right)) in
    c.take.ensures.value ∙ sym split.find_is ∙ ap (find g.K.Ord.cmp c.args.key.now) (sym whole)

pub returns-else-is_below-clause-entries : goal.returns-else-is_below-clause-entries
returns-else-is_below-clause-entries g t c =
    let whole : entries_of c.args.tree.now ≡ entries_of c.in-Full.left ++ (c.in-Full.held, c.in-Full.value) ∷ (c.in-Full.others ++ entries_of c.in-Full.right) = ap entries_of c.in-Fork.is ∙ ap node_entries (sym c.deref_mut.ensures.value ∙ c.in-Full.is) in
    let split = between_of g.K.Ord.cmp g.met.K.Ord.total c.args.key.now (entries_of c.in-Full.left) (c.in-Full.held, c.in-Full.value) c.in-Full.others (entries_of c.in-Full.right) (ap (is_sorted g.K.Ord.cmp) (sym whole) ∙ c.requires.rising) (sym c.cmp.ensures ∙ c.in-Greater.is) (c.if-is_below.ensures.within (entries_of c.in-Full.right)) in
    ap (λ es. entries_of c.in-Full.left ++ (c.in-Full.held, c.in-Full.value) ∷ (es ++ entries_of c.in-Full.right)) c.take.ensures.entries ∙ sym split.without_is ∙ ap (without g.K.Ord.cmp c.args.key.now) (sym whole)

pub returns-then-is_below-clause-room : goal.returns-then-is_below-clause-room
returns-then-is_below-clause-room g t c = c.take_from-side-then-is_below.ensures.room

pub returns-in-Empty-clause-value : goal.returns-in-Empty-clause-value
returns-in-Empty-clause-value g t c = sym (ap (λ es. find g.K.Ord.cmp c.args.key.now es) (ap entries_of c.in-Empty.is))

pub returns-in-Empty-clause-entries : goal.returns-in-Empty-clause-entries
returns-in-Empty-clause-entries g t c = ap entries_of c.in-Empty.is ∙ sym (ap (without g.K.Ord.cmp c.args.key.now) (ap entries_of c.in-Empty.is))

pub returns-in-Empty-clause-room : goal.returns-in-Empty-clause-room
returns-in-Empty-clause-room g t c = up_to _ _ refl

pub returns-in-Blank-clause-value : goal.returns-in-Blank-clause-value
returns-in-Blank-clause-value g t c = sym (ap (λ es. find g.K.Ord.cmp c.args.key.now es) (ap entries_of c.in-Fork.is ∙ ap node_entries (sym c.deref_mut.ensures.value ∙ c.in-Blank.is)))

pub returns-in-Blank-clause-entries : goal.returns-in-Blank-clause-entries
returns-in-Blank-clause-entries g t c = ap node_entries c.in-Blank.is ∙ sym (ap (without g.K.Ord.cmp c.args.key.now) (ap entries_of c.in-Fork.is ∙ ap node_entries (sym c.deref_mut.ensures.value ∙ c.in-Blank.is)))

pub returns-in-Blank-clause-room : goal.returns-in-Blank-clause-room
returns-in-Blank-clause-room g t c = up_to _ _ refl

pub returns-in-Less-clause-room : goal.returns-in-Less-clause-room
returns-in-Less-clause-room g t c = c.take_from-side.ensures.room

pub returns-else-is_below-clause-room : goal.returns-else-is_below-clause-room
returns-else-is_below-clause-room g t c = up_to _ _ refl
