use Rattle.std.proofs.Common.{◌∷◌, ◌++◌, sym, ap, ◌∙◌, rules, IsTrue}
use Rattle.std.specs.FinMap.Entries.{is_sorted}
use Rattle.ordered_map.specs.Entries.{entries_of}
use Rattle.ordered_map.proofs.PutLemmas.{changed_after, changed_before, changed_there, forked_at, sought_beyond, sought_left}
use Rattle.ordered_map.proofs.values.+change_at.Goals as goal

pub change_at-requires : goal.change_at-requires
change_at-requires g t c κs within =
    let forked = forked_at g.K.Ord.cmp (ap entries_of c.in-Fork.is) (sym c.deref_mut.ensures.value ∙ c.in-Full.is) c.requires.rising in
    let sought = sought_left g.K.Ord.cmp c.args.key.now g.met.K.Ord.total forked (sym c.cmp.ensures ∙ c.in-Less.is) in
    let rising : IsTrue (is_sorted g.K.Ord.cmp (entries_of c.in-Full.left)) = sought.rising in
    let smaller = sought.smaller in
    search rules

pub change_beside-requires : goal.change_beside-requires
change_beside-requires g t c =
    let forked = forked_at g.K.Ord.cmp (ap entries_of c.in-Fork.is) (sym c.deref_mut.ensures.value ∙ c.in-Full.is) c.requires.rising in
    record { rising = (sought_beyond g.K.Ord.cmp c.args.key.now g.met.K.Ord.total forked (sym c.cmp.ensures ∙ c.in-Greater.is)).rising }

pub returns-in-Less : goal.returns-in-Less
returns-in-Less g t c =
    let forked = forked_at g.K.Ord.cmp (ap entries_of c.in-Fork.is) (sym c.deref_mut.ensures.value ∙ c.in-Full.is) c.requires.rising in
    ap (λ l. l ++ (c.in-Full.held, c.in-Full.value) ∷ (c.in-Full.others ++ entries_of c.in-Full.right)) c.change_at.ensures ∙ sym (changed_before g.K.Ord.cmp c.args.key.now g.met.K.Ord.total forked (g.C.Change.changed c.args.change.now) (sym c.cmp.ensures ∙ c.in-Less.is))

pub returns-in-Equal : goal.returns-in-Equal
returns-in-Equal g t c =
    let forked = forked_at g.K.Ord.cmp (ap entries_of c.in-Fork.is) (sym c.deref_mut.ensures.value ∙ c.in-Full.is) c.requires.rising in
    ap (λ v. entries_of c.in-Full.left ++ (c.in-Full.held, v) ∷ (c.in-Full.others ++ entries_of c.in-Full.right)) c.change.ensures ∙ sym (changed_there g.K.Ord.cmp c.args.key.now g.met.K.Ord.total forked (g.C.Change.changed c.args.change.now) (sym c.cmp.ensures ∙ c.in-Equal.is))

pub returns-in-Greater : goal.returns-in-Greater
returns-in-Greater g t c =
    let forked = forked_at g.K.Ord.cmp (ap entries_of c.in-Fork.is) (sym c.deref_mut.ensures.value ∙ c.in-Full.is) c.requires.rising in
    ap (λ es. entries_of c.in-Full.left ++ (c.in-Full.held, c.in-Full.value) ∷ es) c.change_beside.ensures ∙ sym (changed_after g.K.Ord.cmp c.args.key.now g.met.K.Ord.total forked (g.C.Change.changed c.args.change.now) (sym c.cmp.ensures ∙ c.in-Greater.is))
