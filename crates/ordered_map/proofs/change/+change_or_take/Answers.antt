use Rattle.std.proofs.Common.{◌≡◌, ◌∷◌, ◌++◌, true, false, cond, sym, ap, ◌∙◌, rules, IsTrue, refl}
use Rattle.std.specs.Prelude.{None, Some}
use Rattle.std.specs.Option.{option_map}
use Rattle.std.specs.FinMap.Entries.{find, is_sorted}
use Rattle.ordered_map.specs.Entries.{entries_of, node_entries}
use Rattle.ordered_map.specs.Lapsed.{changed_or_without, lapsing}
use Rattle.ordered_map.proofs.LapseLemmas.{lapsed_here, lapsed_left, lapsed_beyond, lapsed_between, lasting_here}
use Rattle.ordered_map.proofs.SplitLemmas.{left_shorter, last_shorter, left_of, here_at, right_of, beyond_of, between_of, sorted_front}
use Rattle.ordered_map.proofs.SizeLemmas.{up_to}
use Rattle.ordered_map.proofs.change.+change_or_take.Goals as goal

pub change_or_take-side-requires : goal.change_or_take-side-requires
change_or_take-side-requires g t c κs within =
    let whole : entries_of c.args.tree.now ≡ entries_of c.in-Full.left ++ (c.in-Full.held, c.in-Full.value) ∷ (c.in-Full.others ++ entries_of c.in-Full.right) = ap entries_of c.in-Fork.is ∙ ap node_entries (sym c.deref_mut.ensures.value ∙ c.in-Full.is) in
    let split = left_of g.K.Ord.cmp g.met.K.Ord.total c.args.key.now _ _ _ (ap (is_sorted g.K.Ord.cmp) (sym whole) ∙ c.requires.rising) (sym c.cmp.ensures ∙ c.in-Less.is) in
    let rising : IsTrue (is_sorted g.K.Ord.cmp (entries_of c.in-Full.left)) = split.rising in
    let shorter = left_shorter _ _ _ _ whole in
    search rules

pub is_below-requires : goal.is_below-requires
is_below-requires g t c =
    let whole : entries_of c.args.tree.now ≡ entries_of c.in-Full.left ++ (c.in-Full.held, c.in-Full.value) ∷ (c.in-Full.others ++ entries_of c.in-Full.right) = ap entries_of c.in-Fork.is ∙ ap node_entries (sym c.deref_mut.ensures.value ∙ c.in-Full.is) in
    let split = right_of g.K.Ord.cmp g.met.K.Ord.total c.args.key.now _ _ _ (ap (is_sorted g.K.Ord.cmp) (sym whole) ∙ c.requires.rising) (sym c.cmp.ensures ∙ c.in-Greater.is) in
    record { rising = sorted_front g.K.Ord.cmp c.in-Full.others (entries_of c.in-Full.right) split.rising }

pub change_or_take-side-requires-then-is_below : goal.change_or_take-side-requires-then-is_below
change_or_take-side-requires-then-is_below g t c κs within =
    let whole : entries_of c.args.tree.now ≡ entries_of c.in-Full.left ++ (c.in-Full.held, c.in-Full.value) ∷ (c.in-Full.others ++ entries_of c.in-Full.right) = ap entries_of c.in-Fork.is ∙ ap node_entries (sym c.deref_mut.ensures.value ∙ c.in-Full.is) in
    let split = beyond_of g.K.Ord.cmp g.met.K.Ord.total c.args.key.now (entries_of c.in-Full.left) (c.in-Full.held, c.in-Full.value) c.in-Full.others (entries_of c.in-Full.right) (ap (is_sorted g.K.Ord.cmp) (sym whole) ∙ c.requires.rising) (sym c.cmp.ensures ∙ c.in-Greater.is) c.if-is_below.ensures.past in
    let rising : IsTrue (is_sorted g.K.Ord.cmp (entries_of c.in-Full.right)) = split.rising in
    let shorter = last_shorter (entries_of c.args.tree.now) (entries_of c.in-Full.left) _ c.in-Full.others (entries_of c.in-Full.right) whole in
    search rules

pub change_or_take-requires : goal.change_or_take-requires
change_or_take-requires g t c =
    let whole : entries_of c.args.tree.now ≡ entries_of c.in-Full.left ++ (c.in-Full.held, c.in-Full.value) ∷ (c.in-Full.others ++ entries_of c.in-Full.right) = ap entries_of c.in-Fork.is ∙ ap node_entries (sym c.deref_mut.ensures.value ∙ c.in-Full.is) in
    let split = right_of g.K.Ord.cmp g.met.K.Ord.total c.args.key.now _ _ _ (ap (is_sorted g.K.Ord.cmp) (sym whole) ∙ c.requires.rising) (sym c.cmp.ensures ∙ c.in-Greater.is) in
    record { rising = sorted_front g.K.Ord.cmp c.in-Full.others (entries_of c.in-Full.right) split.rising }

pub returns-in-Less-clause-value : goal.returns-in-Less-clause-value
returns-in-Less-clause-value g t c =
    let whole : entries_of c.args.tree.now ≡ entries_of c.in-Full.left ++ (c.in-Full.held, c.in-Full.value) ∷ (c.in-Full.others ++ entries_of c.in-Full.right) = ap entries_of c.in-Fork.is ∙ ap node_entries (sym c.deref_mut.ensures.value ∙ c.in-Full.is) in
    let split = left_of g.K.Ord.cmp g.met.K.Ord.total c.args.key.now _ _ _ (ap (is_sorted g.K.Ord.cmp) (sym whole) ∙ c.requires.rising) (sym c.cmp.ensures ∙ c.in-Less.is) in
    c.change_or_take-side.ensures.value ∙ ap (λ o. lapsing g.V.Lapse.lapsed (option_map (g.C.Change.changed c.args.change.now) o)) (sym split.find_is ∙ ap (find g.K.Ord.cmp c.args.key.now) (sym whole))

pub returns-in-Less-clause-entries : goal.returns-in-Less-clause-entries
returns-in-Less-clause-entries g t c =
    let whole : entries_of c.args.tree.now ≡ entries_of c.in-Full.left ++ (c.in-Full.held, c.in-Full.value) ∷ (c.in-Full.others ++ entries_of c.in-Full.right) = ap entries_of c.in-Fork.is ∙ ap node_entries (sym c.deref_mut.ensures.value ∙ c.in-Full.is) in
    let both = lapsed_left g.K.Ord.cmp g.met.K.Ord.total c.args.key.now (g.C.Change.changed c.args.change.now) g.V.Lapse.lapsed _ _ _ (ap (is_sorted g.K.Ord.cmp) (sym whole) ∙ c.requires.rising) (sym c.cmp.ensures ∙ c.in-Less.is) in
    let same = ap (changed_or_without g.K.Ord.cmp c.args.key.now (g.C.Change.changed c.args.change.now) g.V.Lapse.lapsed) whole ∙ both in
    c.rebalance.ensures ∙ ap (λ es. es ++ (c.in-Full.held, c.in-Full.value) ∷ (c.in-Full.others ++ entries_of c.in-Full.right)) c.change_or_take-side.ensures.entries ∙ sym same

pub returns-then-has_lapsed-clause-value : goal.returns-then-has_lapsed-clause-value
returns-then-has_lapsed-clause-value g t c =
    let whole : entries_of c.args.tree.now ≡ entries_of c.in-Full.left ++ (c.in-Full.held, c.in-Full.value) ∷ (c.in-Full.others ++ entries_of c.in-Full.right) = ap entries_of c.in-Fork.is ∙ ap node_entries (sym c.deref_mut.ensures.value ∙ c.in-Full.is) in
    let split = here_at g.K.Ord.cmp g.met.K.Ord.total c.args.key.now _ _ _ (ap (is_sorted g.K.Ord.cmp) (sym whole) ∙ c.requires.rising) (sym c.cmp.ensures ∙ c.in-Equal.is) in
    let found = ap (find g.K.Ord.cmp c.args.key.now) whole ∙ split.find_is in
    let is : g.V.Lapse.lapsed ((g.C.Change.changed c.args.change.now) c.in-Full.value) ≡ true = ap g.V.Lapse.lapsed (sym c.change.ensures) ∙ sym c.has_lapsed.ensures ∙ c.if-has_lapsed.true in
    c.take_root.ensures.value ∙ ap Some c.change.ensures ∙ sym (ap (λ b. cond b (Some ((g.C.Change.changed c.args.change.now) c.in-Full.value)) None) is) ∙ ap (λ o. lapsing g.V.Lapse.lapsed (option_map (g.C.Change.changed c.args.change.now) o)) (sym found)

pub returns-then-has_lapsed-clause-entries : goal.returns-then-has_lapsed-clause-entries
returns-then-has_lapsed-clause-entries g t c =
    let whole : entries_of c.args.tree.now ≡ entries_of c.in-Full.left ++ (c.in-Full.held, c.in-Full.value) ∷ (c.in-Full.others ++ entries_of c.in-Full.right) = ap entries_of c.in-Fork.is ∙ ap node_entries (sym c.deref_mut.ensures.value ∙ c.in-Full.is) in
    let is : g.V.Lapse.lapsed ((g.C.Change.changed c.args.change.now) c.in-Full.value) ≡ true = ap g.V.Lapse.lapsed (sym c.change.ensures) ∙ sym c.has_lapsed.ensures ∙ c.if-has_lapsed.true in
    let both = lapsed_here g.K.Ord.cmp g.met.K.Ord.total c.args.key.now (g.C.Change.changed c.args.change.now) g.V.Lapse.lapsed _ _ _ (ap (is_sorted g.K.Ord.cmp) (sym whole) ∙ c.requires.rising) (sym c.cmp.ensures ∙ c.in-Equal.is) is in
    c.take_root.ensures.entries ∙ sym both ∙ ap (changed_or_without g.K.Ord.cmp c.args.key.now (g.C.Change.changed c.args.change.now) g.V.Lapse.lapsed) (sym whole)

pub returns-else-has_lapsed-clause-value : goal.returns-else-has_lapsed-clause-value
returns-else-has_lapsed-clause-value g t c =
    let whole : entries_of c.args.tree.now ≡ entries_of c.in-Full.left ++ (c.in-Full.held, c.in-Full.value) ∷ (c.in-Full.others ++ entries_of c.in-Full.right) = ap entries_of c.in-Fork.is ∙ ap node_entries (sym c.deref_mut.ensures.value ∙ c.in-Full.is) in
    let split = here_at g.K.Ord.cmp g.met.K.Ord.total c.args.key.now _ _ _ (ap (is_sorted g.K.Ord.cmp) (sym whole) ∙ c.requires.rising) (sym c.cmp.ensures ∙ c.in-Equal.is) in
    let found = ap (find g.K.Ord.cmp c.args.key.now) whole ∙ split.find_is in
    let is : g.V.Lapse.lapsed ((g.C.Change.changed c.args.change.now) c.in-Full.value) ≡ false = ap g.V.Lapse.lapsed (sym c.change.ensures) ∙ sym c.has_lapsed.ensures ∙ c.if-has_lapsed.false in
    sym (ap (λ b. cond b (Some ((g.C.Change.changed c.args.change.now) c.in-Full.value)) None) is) ∙ ap (λ o. lapsing g.V.Lapse.lapsed (option_map (g.C.Change.changed c.args.change.now) o)) (sym found)

pub returns-else-has_lapsed-clause-entries : goal.returns-else-has_lapsed-clause-entries
returns-else-has_lapsed-clause-entries g t c =
    let whole : entries_of c.args.tree.now ≡ entries_of c.in-Full.left ++ (c.in-Full.held, c.in-Full.value) ∷ (c.in-Full.others ++ entries_of c.in-Full.right) = ap entries_of c.in-Fork.is ∙ ap node_entries (sym c.deref_mut.ensures.value ∙ c.in-Full.is) in
    let is : g.V.Lapse.lapsed ((g.C.Change.changed c.args.change.now) c.in-Full.value) ≡ false = ap g.V.Lapse.lapsed (sym c.change.ensures) ∙ sym c.has_lapsed.ensures ∙ c.if-has_lapsed.false in
    let both = lasting_here g.K.Ord.cmp g.met.K.Ord.total c.args.key.now (g.C.Change.changed c.args.change.now) g.V.Lapse.lapsed _ _ _ (ap (is_sorted g.K.Ord.cmp) (sym whole) ∙ c.requires.rising) (sym c.cmp.ensures ∙ c.in-Equal.is) is in
    ap (λ v. entries_of c.in-Full.left ++ (c.in-Full.held, v) ∷ (c.in-Full.others ++ entries_of c.in-Full.right)) c.change.ensures ∙ sym both ∙ ap (changed_or_without g.K.Ord.cmp c.args.key.now (g.C.Change.changed c.args.change.now) g.V.Lapse.lapsed) (sym whole)

pub returns-then-is_below-clause-value : goal.returns-then-is_below-clause-value
returns-then-is_below-clause-value g t c =
    let whole : entries_of c.args.tree.now ≡ entries_of c.in-Full.left ++ (c.in-Full.held, c.in-Full.value) ∷ (c.in-Full.others ++ entries_of c.in-Full.right) = ap entries_of c.in-Fork.is ∙ ap node_entries (sym c.deref_mut.ensures.value ∙ c.in-Full.is) in
    let split = beyond_of g.K.Ord.cmp g.met.K.Ord.total c.args.key.now (entries_of c.in-Full.left) (c.in-Full.held, c.in-Full.value) c.in-Full.others (entries_of c.in-Full.right) (ap (is_sorted g.K.Ord.cmp) (sym whole) ∙ c.requires.rising) (sym c.cmp.ensures ∙ c.in-Greater.is) c.if-is_below.ensures.past in
    c.change_or_take-side-then-is_below.ensures.value ∙ ap (λ o. lapsing g.V.Lapse.lapsed (option_map (g.C.Change.changed c.args.change.now) o)) (sym split.find_is ∙ ap (find g.K.Ord.cmp c.args.key.now) (sym whole))

pub returns-then-is_below-clause-entries : goal.returns-then-is_below-clause-entries
returns-then-is_below-clause-entries g t c =
    let whole : entries_of c.args.tree.now ≡ entries_of c.in-Full.left ++ (c.in-Full.held, c.in-Full.value) ∷ (c.in-Full.others ++ entries_of c.in-Full.right) = ap entries_of c.in-Fork.is ∙ ap node_entries (sym c.deref_mut.ensures.value ∙ c.in-Full.is) in
    let both = lapsed_beyond g.K.Ord.cmp g.met.K.Ord.total c.args.key.now (g.C.Change.changed c.args.change.now) g.V.Lapse.lapsed (entries_of c.in-Full.left) (c.in-Full.held, c.in-Full.value) c.in-Full.others (entries_of c.in-Full.right) (ap (is_sorted g.K.Ord.cmp) (sym whole) ∙ c.requires.rising) (sym c.cmp.ensures ∙ c.in-Greater.is) c.if-is_below.ensures.past in
    let same = ap (changed_or_without g.K.Ord.cmp c.args.key.now (g.C.Change.changed c.args.change.now) g.V.Lapse.lapsed) whole ∙ both in
    c.rebalance-then-is_below.ensures ∙ ap (λ es. entries_of c.in-Full.left ++ (c.in-Full.held, c.in-Full.value) ∷ (c.in-Full.others ++ es)) c.change_or_take-side-then-is_below.ensures.entries ∙ sym same

pub returns-else-is_below-clause-value : goal.returns-else-is_below-clause-value
returns-else-is_below-clause-value g t c =
    let whole : entries_of c.args.tree.now ≡ entries_of c.in-Full.left ++ (c.in-Full.held, c.in-Full.value) ∷ (c.in-Full.others ++ entries_of c.in-Full.right) = ap entries_of c.in-Fork.is ∙ ap node_entries (sym c.deref_mut.ensures.value ∙ c.in-Full.is) in
    let split = between_of g.K.Ord.cmp g.met.K.Ord.total c.args.key.now (entries_of c.in-Full.left) (c.in-Full.held, c.in-Full.value) c.in-Full.others (entries_of c.in-Full.right) (ap (is_sorted g.K.Ord.cmp) (sym whole) ∙ c.requires.rising) (sym c.cmp.ensures ∙ c.in-Greater.is) (c.if-is_below.ensures.within (entries_of c.in-Full.right)) in
    c.change_or_take.ensures.value ∙ ap (λ o. lapsing g.V.Lapse.lapsed (option_map (g.C.Change.changed c.args.change.now) o)) (sym split.find_is ∙ ap (find g.K.Ord.cmp c.args.key.now) (sym whole))

pub returns-else-is_below-clause-entries : goal.returns-else-is_below-clause-entries
returns-else-is_below-clause-entries g t c =
    let whole : entries_of c.args.tree.now ≡ entries_of c.in-Full.left ++ (c.in-Full.held, c.in-Full.value) ∷ (c.in-Full.others ++ entries_of c.in-Full.right) = ap entries_of c.in-Fork.is ∙ ap node_entries (sym c.deref_mut.ensures.value ∙ c.in-Full.is) in
    let both = lapsed_between g.K.Ord.cmp g.met.K.Ord.total c.args.key.now (g.C.Change.changed c.args.change.now) g.V.Lapse.lapsed (entries_of c.in-Full.left) (c.in-Full.held, c.in-Full.value) c.in-Full.others (entries_of c.in-Full.right) (ap (is_sorted g.K.Ord.cmp) (sym whole) ∙ c.requires.rising) (sym c.cmp.ensures ∙ c.in-Greater.is) (c.if-is_below.ensures.within (entries_of c.in-Full.right)) in
    ap (λ es. entries_of c.in-Full.left ++ (c.in-Full.held, c.in-Full.value) ∷ (es ++ entries_of c.in-Full.right)) c.change_or_take.ensures.entries ∙ sym both ∙ ap (changed_or_without g.K.Ord.cmp c.args.key.now (g.C.Change.changed c.args.change.now) g.V.Lapse.lapsed) (sym whole)

pub returns-then-has_lapsed-clause-room : goal.returns-then-has_lapsed-clause-room
returns-then-has_lapsed-clause-room g t c = c.take_root.ensures.room

pub returns-then-is_below-clause-room : goal.returns-then-is_below-clause-room
returns-then-is_below-clause-room g t c = c.change_or_take-side-then-is_below.ensures.room

pub returns-in-Empty-clause-value : goal.returns-in-Empty-clause-value
returns-in-Empty-clause-value g t c = sym (ap (λ es. lapsing g.V.Lapse.lapsed (option_map (g.C.Change.changed c.args.change.now) (find g.K.Ord.cmp c.args.key.now es))) (ap entries_of c.in-Empty.is))

pub returns-in-Empty-clause-entries : goal.returns-in-Empty-clause-entries
returns-in-Empty-clause-entries g t c = ap entries_of c.in-Empty.is ∙ sym (ap (changed_or_without g.K.Ord.cmp c.args.key.now (g.C.Change.changed c.args.change.now) g.V.Lapse.lapsed) (ap entries_of c.in-Empty.is))

pub returns-in-Empty-clause-room : goal.returns-in-Empty-clause-room
returns-in-Empty-clause-room g t c = up_to _ _ refl

pub returns-in-Blank-clause-value : goal.returns-in-Blank-clause-value
returns-in-Blank-clause-value g t c = sym (ap (λ es. lapsing g.V.Lapse.lapsed (option_map (g.C.Change.changed c.args.change.now) (find g.K.Ord.cmp c.args.key.now es))) (ap entries_of c.in-Fork.is ∙ ap node_entries (sym c.deref_mut.ensures.value ∙ c.in-Blank.is)))

pub returns-in-Blank-clause-entries : goal.returns-in-Blank-clause-entries
returns-in-Blank-clause-entries g t c = ap node_entries c.in-Blank.is ∙ sym (ap (changed_or_without g.K.Ord.cmp c.args.key.now (g.C.Change.changed c.args.change.now) g.V.Lapse.lapsed) (ap entries_of c.in-Fork.is ∙ ap node_entries (sym c.deref_mut.ensures.value ∙ c.in-Blank.is)))

pub returns-in-Blank-clause-room : goal.returns-in-Blank-clause-room
returns-in-Blank-clause-room g t c = up_to _ _ refl

pub returns-in-Less-clause-room : goal.returns-in-Less-clause-room
returns-in-Less-clause-room g t c = c.change_or_take-side.ensures.room

pub returns-else-has_lapsed-clause-room : goal.returns-else-has_lapsed-clause-room
returns-else-has_lapsed-clause-room g t c = up_to _ _ refl

pub returns-else-is_below-clause-room : goal.returns-else-is_below-clause-room
returns-else-is_below-clause-room g t c = up_to _ _ refl
