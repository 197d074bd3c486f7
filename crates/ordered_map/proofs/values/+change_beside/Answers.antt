use Rattle.std.proofs.Common.{◌∷◌, ◌++◌, sym, ap, ◌∙◌, rules, IsTrue}
use Rattle.std.proofs.lemmas.List.{append_assoc}
use Rattle.std.specs.FinMap.Entries.{is_sorted}
use Rattle.ordered_map.specs.Changes.{changed_at}
use Rattle.ordered_map.specs.Entries.{entries_of, node_entries}
use Rattle.ordered_map.proofs.PutLemmas.{all_of, changed_after, changed_before, changed_there, forked_beside, sought_beyond, sought_left}
use Rattle.ordered_map.proofs.values.+change_beside.Goals as goal

pub change_beside-requires : goal.change_beside-requires
change_beside-requires g t c κs within =
    let forked = forked_beside g.K.Ord.cmp c.args.run.now (ap entries_of c.in-Fork.is) (sym c.deref_mut.ensures.value ∙ c.in-Full.is) c.requires.rising in
    let sought = sought_left g.K.Ord.cmp c.args.key.now g.met.K.Ord.total forked (sym c.cmp.ensures ∙ c.in-Less.is) in
    let rising : IsTrue (is_sorted g.K.Ord.cmp (c.args.run.now ++ entries_of c.in-Full.left)) = sought.rising in
    let smaller = sought.smaller in
    search rules

pub change_beside-requires-in-Greater : goal.change_beside-requires-in-Greater
change_beside-requires-in-Greater g t c κs within =
    let forked = forked_beside g.K.Ord.cmp c.args.run.now (ap entries_of c.in-Fork.is) (sym c.deref_mut.ensures.value ∙ c.in-Full.is) c.requires.rising in
    let sought = sought_beyond g.K.Ord.cmp c.args.key.now g.met.K.Ord.total forked (sym c.cmp.ensures ∙ c.in-Greater.is) in
    let rising : IsTrue (is_sorted g.K.Ord.cmp (c.in-Full.others ++ entries_of c.in-Full.right)) = sought.rising in
    let smaller = sought.smaller in
    search rules

pub change_at-requires : goal.change_at-requires
change_at-requires g t c = record { rising = ap (is_sorted g.K.Ord.cmp) (sym (all_of c.args.run.now (ap entries_of c.in-Empty.is))) ∙ c.requires.rising }

pub change_at-requires-in-Blank : goal.change_at-requires-in-Blank
change_at-requires-in-Blank g t c = record { rising = ap (is_sorted g.K.Ord.cmp) (sym (all_of c.args.run.now (ap entries_of c.in-Fork.is ∙ ap node_entries (sym c.deref_mut.ensures.value ∙ c.in-Blank.is)))) ∙ c.requires.rising }

pub returns-in-Empty : goal.returns-in-Empty
returns-in-Empty g t c = all_of c.change_at.new.self (ap entries_of c.in-Empty.is) ∙ c.change_at.ensures ∙ ap (changed_at g.K.Ord.cmp c.args.key.now (g.C.Change.changed c.args.change.now)) (sym (all_of c.args.run.now (ap entries_of c.in-Empty.is)))

pub returns-in-Blank : goal.returns-in-Blank
returns-in-Blank g t c = all_of c.change_at-in-Blank.new.self (ap node_entries c.in-Blank.is) ∙ c.change_at-in-Blank.ensures ∙ ap (changed_at g.K.Ord.cmp c.args.key.now (g.C.Change.changed c.args.change.now)) (sym (all_of c.args.run.now (ap entries_of c.in-Fork.is ∙ ap node_entries (sym c.deref_mut.ensures.value ∙ c.in-Blank.is))))

pub returns-in-Less : goal.returns-in-Less
returns-in-Less g t c =
    let forked = forked_beside g.K.Ord.cmp c.args.run.now (ap entries_of c.in-Fork.is) (sym c.deref_mut.ensures.value ∙ c.in-Full.is) c.requires.rising in
    sym (append_assoc c.change_beside.new.run (entries_of c.change_beside.new.tree) ((c.in-Full.held, c.in-Full.value) ∷ (c.in-Full.others ++ entries_of c.in-Full.right)))
    ∙ ap (λ l. l ++ (c.in-Full.held, c.in-Full.value) ∷ (c.in-Full.others ++ entries_of c.in-Full.right)) c.change_beside.ensures ∙ sym (changed_before g.K.Ord.cmp c.args.key.now g.met.K.Ord.total forked (g.C.Change.changed c.args.change.now) (sym c.cmp.ensures ∙ c.in-Less.is))

pub returns-in-Equal : goal.returns-in-Equal
returns-in-Equal g t c =
    let forked = forked_beside g.K.Ord.cmp c.args.run.now (ap entries_of c.in-Fork.is) (sym c.deref_mut.ensures.value ∙ c.in-Full.is) c.requires.rising in
    sym (append_assoc c.args.run.now (entries_of c.in-Full.left) ((c.in-Full.held, c.change.new.value) ∷ (c.in-Full.others ++ entries_of c.in-Full.right)))
    ∙ ap (λ v. (c.args.run.now ++ entries_of c.in-Full.left) ++ (c.in-Full.held, v) ∷ (c.in-Full.others ++ entries_of c.in-Full.right)) c.change.ensures ∙ sym (changed_there g.K.Ord.cmp c.args.key.now g.met.K.Ord.total forked (g.C.Change.changed c.args.change.now) (sym c.cmp.ensures ∙ c.in-Equal.is))

pub returns-in-Greater : goal.returns-in-Greater
returns-in-Greater g t c =
    let forked = forked_beside g.K.Ord.cmp c.args.run.now (ap entries_of c.in-Fork.is) (sym c.deref_mut.ensures.value ∙ c.in-Full.is) c.requires.rising in
    sym (append_assoc c.args.run.now (entries_of c.in-Full.left) ((c.in-Full.held, c.in-Full.value) ∷ (c.change_beside-in-Greater.new.run ++ entries_of c.change_beside-in-Greater.new.tree)))
    ∙ ap (λ es. (c.args.run.now ++ entries_of c.in-Full.left) ++ (c.in-Full.held, c.in-Full.value) ∷ es) c.change_beside-in-Greater.ensures ∙ sym (changed_after g.K.Ord.cmp c.args.key.now g.met.K.Ord.total forked (g.C.Change.changed c.args.change.now) (sym c.cmp.ensures ∙ c.in-Greater.is))
