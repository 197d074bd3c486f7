use Rattle.std.proofs.Common.{◌≡◌, ◌∷◌, ◌++◌, sym, ap, ◌∙◌, rules, IsTrue, None}
use Rattle.std.proofs.lemmas.List.{append_assoc}
use Rattle.std.specs.Ordering.{is_lt}
use Rattle.std.specs.FinMap.Entries.{find, is_sorted}
use Rattle.ordered_map.specs.Entries.{entries_of, node_entries, put_given}
use Rattle.ordered_map.proofs.SplitLemmas.{less}
use Rattle.ordered_map.proofs.PutLemmas.{all_of, forked_beside, not_smaller, sought_beyond, sought_left}
use Rattle.ordered_map.proofs.put.+put_box_beside.Goals as goal

pub put_box_beside-side-requires : goal.put_box_beside-side-requires
put_box_beside-side-requires g t c κs within =
    let forked = forked_beside g.K.Ord.cmp c.args.run.now (ap entries_of c.in-Fork.is) (sym c.deref_mut.ensures.value ∙ c.in-Full.is) c.requires.rising in
    let sought = sought_left g.K.Ord.cmp c.args.key g.met.K.Ord.total forked (sym c.cmp.ensures ∙ less _ (sym c.is_lt.ensures ∙ c.if-is_lt.true)) in
    let rising : IsTrue (is_sorted g.K.Ord.cmp (c.args.run.now ++ entries_of c.in-Full.left)) = sought.rising in
    let absent : find g.K.Ord.cmp c.args.key (c.args.run.now ++ entries_of c.in-Full.left) ≡ None = sym sought.find_is ∙ c.requires.absent in
    let smaller = sought.smaller in
    search rules

pub put_box_beside-side-requires-else-is_lt : goal.put_box_beside-side-requires-else-is_lt
put_box_beside-side-requires-else-is_lt g t c κs within =
    let forked = forked_beside g.K.Ord.cmp c.args.run.now (ap entries_of c.in-Fork.is) (sym c.deref_mut.ensures.value ∙ c.in-Full.is) c.requires.rising in
    let sought = sought_beyond g.K.Ord.cmp c.args.key g.met.K.Ord.total forked (not_smaller g.K.Ord.cmp c.args.key g.met.K.Ord.total forked c.requires.absent (ap is_lt (sym c.cmp.ensures) ∙ sym c.is_lt.ensures ∙ c.if-is_lt.false)) in
    let rising : IsTrue (is_sorted g.K.Ord.cmp (c.in-Full.others ++ entries_of c.in-Full.right)) = sought.rising in
    let absent : find g.K.Ord.cmp c.args.key (c.in-Full.others ++ entries_of c.in-Full.right) ≡ None = sym sought.find_is ∙ c.requires.absent in
    let smaller = sought.smaller in
    search rules

pub returns-then-is_lt-clause-entries : goal.returns-then-is_lt-clause-entries
returns-then-is_lt-clause-entries g t c =
    let forked = forked_beside g.K.Ord.cmp c.args.run.now (ap entries_of c.in-Fork.is) (sym c.deref_mut.ensures.value ∙ c.in-Full.is) c.requires.rising in
    let same = (sought_left g.K.Ord.cmp c.args.key g.met.K.Ord.total forked (sym c.cmp.ensures ∙ less _ (sym c.is_lt.ensures ∙ c.if-is_lt.true))).put_is c.args.value.now in
    let both = append_assoc c.put_box_beside-side.new.run (entries_of c.put_box_beside-side.new.tree) ((c.in-Full.held, c.in-Full.value) ∷ (c.in-Full.others ++ entries_of c.in-Full.right)) in
    ap (λ es. c.put_box_beside-side.new.run ++ es) c.rebalance.ensures ∙ sym both ∙ ap (λ es. es ++ (c.in-Full.held, c.in-Full.value) ∷ (c.in-Full.others ++ entries_of c.in-Full.right)) c.put_box_beside-side.ensures.entries ∙ sym same

pub returns-else-is_lt-clause-entries : goal.returns-else-is_lt-clause-entries
returns-else-is_lt-clause-entries g t c =
    let forked = forked_beside g.K.Ord.cmp c.args.run.now (ap entries_of c.in-Fork.is) (sym c.deref_mut.ensures.value ∙ c.in-Full.is) c.requires.rising in
    let same = (sought_beyond g.K.Ord.cmp c.args.key g.met.K.Ord.total forked (not_smaller g.K.Ord.cmp c.args.key g.met.K.Ord.total forked c.requires.absent (ap is_lt (sym c.cmp.ensures) ∙ sym c.is_lt.ensures ∙ c.if-is_lt.false))).put_is c.args.value.now in
    let both = append_assoc c.args.run.now (entries_of c.in-Full.left) ((c.in-Full.held, c.in-Full.value) ∷ (c.put_box_beside-side-else-is_lt.new.run ++ entries_of c.put_box_beside-side-else-is_lt.new.tree)) in
    ap (λ es. c.args.run.now ++ es) c.rebalance-else-is_lt.ensures ∙ sym both ∙ ap (λ es. (c.args.run.now ++ entries_of c.in-Full.left) ++ (c.in-Full.held, c.in-Full.value) ∷ es) c.put_box_beside-side-else-is_lt.ensures.entries ∙ sym same

pub put_past-requires : goal.put_past-requires
put_past-requires g t c =
    let all = all_of c.args.run.now (ap entries_of c.in-Empty.is) in
    record { rising = ap (is_sorted g.K.Ord.cmp) (sym all) ∙ c.requires.rising; absent = ap (find g.K.Ord.cmp c.args.key) (sym all) ∙ c.requires.absent; room = c.requires.room; given = c.requires.given }

pub put_past-requires-in-Blank : goal.put_past-requires-in-Blank
put_past-requires-in-Blank g t c =
    let all = all_of c.args.run.now (ap entries_of c.in-Fork.is ∙ ap node_entries (sym c.deref_mut.ensures.value ∙ c.in-Blank.is)) in
    record { rising = ap (is_sorted g.K.Ord.cmp) (sym all) ∙ c.requires.rising; absent = ap (find g.K.Ord.cmp c.args.key) (sym all) ∙ c.requires.absent; room = c.requires.room; given = c.requires.given }

pub returns-in-Empty-clause-entries : goal.returns-in-Empty-clause-entries
returns-in-Empty-clause-entries g t c = c.put_past.ensures.entries ∙ ap (put_given g.K.Ord.cmp c.args.key c.args.value.now) (sym (all_of c.args.run.now (ap entries_of c.in-Empty.is)))

pub returns-in-Blank-clause-entries : goal.returns-in-Blank-clause-entries
returns-in-Blank-clause-entries g t c = c.put_past-in-Blank.ensures.entries ∙ ap (put_given g.K.Ord.cmp c.args.key c.args.value.now) (sym (all_of c.args.run.now (ap entries_of c.in-Fork.is ∙ ap node_entries (sym c.deref_mut.ensures.value ∙ c.in-Blank.is))))
