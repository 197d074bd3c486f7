use Rattle.std.proofs.Common.{◌∷◌, ◌++◌, sym, ap, subst, ◌∙◌, rules, IsTrue}
use Rattle.std.proofs.lemmas.List.{append_assoc}
use Rattle.std.specs.Prelude.{is_some}
use Rattle.std.specs.FinMap.Entries.{is_sorted}
use Rattle.ordered_map.specs.Entries.{entries_of, node_entries}
use Rattle.ordered_map.specs.Puts.{IsChangedOrPut}
use Rattle.ordered_map.proofs.PutLemmas.{all_of, changed_alone, changed_sought, find_here, forked_beside, given_at, sought_beyond, sought_left}
use Rattle.ordered_map.proofs.put.+change_or_put_beside.Goals as goal

pub change_or_put_beside-requires : goal.change_or_put_beside-requires
change_or_put_beside-requires g t c κs within =
    let forked = forked_beside g.K.Ord.cmp c.args.run.now (ap entries_of c.in-Fork.is) (sym c.deref_mut.ensures.value ∙ c.in-Full.is) c.requires.rising in
    let sought = sought_left g.K.Ord.cmp c.args.key g.met.K.Ord.total forked (sym c.cmp.ensures ∙ c.in-Less.is) in
    let rising : IsTrue (is_sorted g.K.Ord.cmp (c.args.run.now ++ entries_of c.in-Full.left)) = sought.rising in
    let smaller = sought.smaller in
    search rules

pub change_or_put_beside-requires-in-Greater : goal.change_or_put_beside-requires-in-Greater
change_or_put_beside-requires-in-Greater g t c κs within =
    let forked = forked_beside g.K.Ord.cmp c.args.run.now (ap entries_of c.in-Fork.is) (sym c.deref_mut.ensures.value ∙ c.in-Full.is) c.requires.rising in
    let sought = sought_beyond g.K.Ord.cmp c.args.key g.met.K.Ord.total forked (sym c.cmp.ensures ∙ c.in-Greater.is) in
    let rising : IsTrue (is_sorted g.K.Ord.cmp (c.in-Full.others ++ entries_of c.in-Full.right)) = sought.rising in
    let smaller = sought.smaller in
    search rules

pub change_or_put-requires : goal.change_or_put-requires
change_or_put-requires g t c = record { rising = ap (is_sorted g.K.Ord.cmp) (sym (all_of c.args.run.now (ap entries_of c.in-Empty.is))) ∙ c.requires.rising; given = c.requires.given }

pub change_or_put-requires-in-Blank : goal.change_or_put-requires-in-Blank
change_or_put-requires-in-Blank g t c = record { rising = ap (is_sorted g.K.Ord.cmp) (sym (all_of c.args.run.now (ap entries_of c.in-Fork.is ∙ ap node_entries (sym c.deref_mut.ensures.value ∙ c.in-Blank.is)))) ∙ c.requires.rising; given = c.requires.given }

pub returns-in-Empty : goal.returns-in-Empty
returns-in-Empty g t c = changed_alone g.K.Ord.cmp c.args.key c.args.value.now c.args.run.now c.change_or_put.result c.change_or_put.new.value c.change_or_put.new.self (ap entries_of c.in-Empty.is) (ap entries_of c.in-Empty.is) (g.C.Change.changed c.args.change.now) c.change_or_put.ensures

pub returns-in-Blank : goal.returns-in-Blank
returns-in-Blank g t c = changed_alone g.K.Ord.cmp c.args.key c.args.value.now c.args.run.now c.change_or_put-in-Blank.result c.change_or_put-in-Blank.new.value c.change_or_put-in-Blank.new.self (ap entries_of c.in-Fork.is ∙ ap node_entries (sym c.deref_mut.ensures.value ∙ c.in-Blank.is)) (ap node_entries c.in-Blank.is) (g.C.Change.changed c.args.change.now) c.change_or_put-in-Blank.ensures

pub returns-in-Less : goal.returns-in-Less
returns-in-Less g t c =
    let forked = forked_beside g.K.Ord.cmp c.args.run.now (ap entries_of c.in-Fork.is) (sym c.deref_mut.ensures.value ∙ c.in-Full.is) c.requires.rising in
    subst (λ fs. IsChangedOrPut g.K.Ord.cmp c.args.key (g.C.Change.changed c.args.change.now) c.args.value.now (c.args.run.now ++ entries_of c.args.tree.now) c.change_or_put_beside.new.back c.change_or_put_beside.new.value fs) (append_assoc c.change_or_put_beside.new.run (entries_of c.change_or_put_beside.new.tree) ((c.in-Full.held, c.in-Full.old) ∷ (c.in-Full.others ++ entries_of c.in-Full.right)))
    (changed_sought g.K.Ord.cmp c.args.key (g.C.Change.changed c.args.change.now) c.args.value.now (sought_left g.K.Ord.cmp c.args.key g.met.K.Ord.total forked (sym c.cmp.ensures ∙ c.in-Less.is)) c.change_or_put_beside.new.back c.change_or_put_beside.new.value (c.change_or_put_beside.new.run ++ entries_of c.change_or_put_beside.new.tree) c.change_or_put_beside.ensures)

pub returns-in-Equal : goal.returns-in-Equal
returns-in-Equal g t c =
    let forked = forked_beside g.K.Ord.cmp c.args.run.now (ap entries_of c.in-Fork.is) (sym c.deref_mut.ensures.value ∙ c.in-Full.is) c.requires.rising in (
      c.requires.given ∙ ap is_some (sym (find_here g.K.Ord.cmp c.args.key g.met.K.Ord.total forked (sym c.cmp.ensures ∙ c.in-Equal.is))),
      sym (append_assoc c.args.run.now (entries_of c.in-Full.left) ((c.in-Full.held, c.change.new.value) ∷ (c.in-Full.others ++ entries_of c.in-Full.right)))
          ∙ ap (λ v. (c.args.run.now ++ entries_of c.in-Full.left) ++ (c.in-Full.held, v) ∷ (c.in-Full.others ++ entries_of c.in-Full.right)) c.change.ensures ∙ sym (given_at g.K.Ord.cmp c.args.key g.met.K.Ord.total forked (g.C.Change.changed c.args.change.now) c.args.value.now (sym c.cmp.ensures ∙ c.in-Equal.is)),
    )

pub returns-in-Greater : goal.returns-in-Greater
returns-in-Greater g t c =
    let forked = forked_beside g.K.Ord.cmp c.args.run.now (ap entries_of c.in-Fork.is) (sym c.deref_mut.ensures.value ∙ c.in-Full.is) c.requires.rising in
    subst (λ fs. IsChangedOrPut g.K.Ord.cmp c.args.key (g.C.Change.changed c.args.change.now) c.args.value.now (c.args.run.now ++ entries_of c.args.tree.now) c.change_or_put_beside-in-Greater.new.back c.change_or_put_beside-in-Greater.new.value fs) (append_assoc c.args.run.now (entries_of c.in-Full.left) ((c.in-Full.held, c.in-Full.old) ∷ (c.change_or_put_beside-in-Greater.new.run ++ entries_of c.change_or_put_beside-in-Greater.new.tree)))
    (changed_sought g.K.Ord.cmp c.args.key (g.C.Change.changed c.args.change.now) c.args.value.now (sought_beyond g.K.Ord.cmp c.args.key g.met.K.Ord.total forked (sym c.cmp.ensures ∙ c.in-Greater.is)) c.change_or_put_beside-in-Greater.new.back c.change_or_put_beside-in-Greater.new.value (c.change_or_put_beside-in-Greater.new.run ++ entries_of c.change_or_put_beside-in-Greater.new.tree) c.change_or_put_beside-in-Greater.ensures)
