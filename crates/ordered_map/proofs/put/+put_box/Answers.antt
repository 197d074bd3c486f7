use Rattle.std.proofs.Common.{◌≡◌, ◌∷◌, ◌++◌, sym, ap, ◌∙◌, rules, IsTrue, None}
use Rattle.std.specs.Ordering.{is_lt}
use Rattle.std.specs.FinMap.Entries.{find, is_sorted}
use Rattle.ordered_map.specs.Entries.{entries_of}
use Rattle.ordered_map.proofs.SplitLemmas.{less}
use Rattle.ordered_map.proofs.PutLemmas.{forked_at, not_smaller, sought_beyond, sought_left}
use Rattle.ordered_map.proofs.put.+put_box.Goals as goal

pub put_box-side-requires : goal.put_box-side-requires
put_box-side-requires g t c κs within =
    let forked = forked_at g.K.Ord.cmp (ap entries_of c.in-Fork.is) (sym c.deref_mut.ensures.value ∙ c.in-Full.is) c.requires.rising in
    let sought = sought_left g.K.Ord.cmp c.args.key g.met.K.Ord.total forked (sym c.cmp.ensures ∙ less _ (sym c.is_lt.ensures ∙ c.if-is_lt.true)) in
    let rising : IsTrue (is_sorted g.K.Ord.cmp (entries_of c.in-Full.left)) = sought.rising in
    let absent : find g.K.Ord.cmp c.args.key (entries_of c.in-Full.left) ≡ None = sym sought.find_is ∙ c.requires.absent in
    let smaller = sought.smaller in
    search rules

pub put_box_beside-side-requires : goal.put_box_beside-side-requires
put_box_beside-side-requires g t c =
    let forked = forked_at g.K.Ord.cmp (ap entries_of c.in-Fork.is) (sym c.deref_mut.ensures.value ∙ c.in-Full.is) c.requires.rising in
    let sought = sought_beyond g.K.Ord.cmp c.args.key g.met.K.Ord.total forked (not_smaller g.K.Ord.cmp c.args.key g.met.K.Ord.total forked c.requires.absent (ap is_lt (sym c.cmp.ensures) ∙ sym c.is_lt.ensures ∙ c.if-is_lt.false)) in
    record { rising = sought.rising; absent = sym sought.find_is ∙ c.requires.absent; room = c.requires.room; given = c.requires.given }

pub returns-then-is_lt-clause-entries : goal.returns-then-is_lt-clause-entries
returns-then-is_lt-clause-entries g t c =
    let forked = forked_at g.K.Ord.cmp (ap entries_of c.in-Fork.is) (sym c.deref_mut.ensures.value ∙ c.in-Full.is) c.requires.rising in
    let same = (sought_left g.K.Ord.cmp c.args.key g.met.K.Ord.total forked (sym c.cmp.ensures ∙ less _ (sym c.is_lt.ensures ∙ c.if-is_lt.true))).put_is c.args.value.now in
    c.rebalance.ensures ∙ ap (λ es. es ++ (c.in-Full.held, c.in-Full.value) ∷ (c.in-Full.others ++ entries_of c.in-Full.right)) c.put_box-side.ensures.entries ∙ sym same

pub returns-else-is_lt-clause-entries : goal.returns-else-is_lt-clause-entries
returns-else-is_lt-clause-entries g t c =
    let forked = forked_at g.K.Ord.cmp (ap entries_of c.in-Fork.is) (sym c.deref_mut.ensures.value ∙ c.in-Full.is) c.requires.rising in
    let same = (sought_beyond g.K.Ord.cmp c.args.key g.met.K.Ord.total forked (not_smaller g.K.Ord.cmp c.args.key g.met.K.Ord.total forked c.requires.absent (ap is_lt (sym c.cmp.ensures) ∙ sym c.is_lt.ensures ∙ c.if-is_lt.false))).put_is c.args.value.now in
    c.rebalance-else-is_lt.ensures ∙ ap (λ es. entries_of c.in-Full.left ++ (c.in-Full.held, c.in-Full.value) ∷ es) c.put_box_beside-side.ensures.entries ∙ sym same
