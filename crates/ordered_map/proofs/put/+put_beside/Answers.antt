use Rattle.std.proofs.Common.{◌∷◌, ◌++◌, sym, ap, subst, ◌∙◌, rules, IsTrue}
use Rattle.std.proofs.lemmas.List.{append_assoc}
use Rattle.std.specs.FinMap.Entries.{is_sorted}
use Rattle.ordered_map.specs.Entries.{entries_of, node_entries, put_given}
use Rattle.ordered_map.specs.Puts.{IsPut}
use Rattle.ordered_map.proofs.PutLemmas.{all_of, find_here, forked_beside, put_alone, put_here, put_sought, sought_beyond, sought_left}
use Rattle.ordered_map.proofs.put.+put_beside.Goals as goal

pub put_beside-requires : goal.put_beside-requires
put_beside-requires g t c κs within =
    let forked = forked_beside g.K.Ord.cmp c.args.run.now (ap entries_of c.in-Fork.is) (sym c.deref_mut.ensures.value ∙ c.in-Full.is) c.requires.rising in
    let sought = sought_left g.K.Ord.cmp c.args.key g.met.K.Ord.total forked (sym c.cmp.ensures ∙ c.in-Less.is) in
    let rising : IsTrue (is_sorted g.K.Ord.cmp (c.args.run.now ++ entries_of c.in-Full.left)) = sought.rising in
    let smaller = sought.smaller in
    search rules

pub put_beside-requires-in-Greater : goal.put_beside-requires-in-Greater
put_beside-requires-in-Greater g t c κs within =
    let forked = forked_beside g.K.Ord.cmp c.args.run.now (ap entries_of c.in-Fork.is) (sym c.deref_mut.ensures.value ∙ c.in-Full.is) c.requires.rising in
    let sought = sought_beyond g.K.Ord.cmp c.args.key g.met.K.Ord.total forked (sym c.cmp.ensures ∙ c.in-Greater.is) in
    let rising : IsTrue (is_sorted g.K.Ord.cmp (c.in-Full.others ++ entries_of c.in-Full.right)) = sought.rising in
    let smaller = sought.smaller in
    search rules

pub put-requires : goal.put-requires
put-requires g t c = record { rising = ap (is_sorted g.K.Ord.cmp) (sym (all_of c.args.run.now (ap entries_of c.in-Empty.is))) ∙ c.requires.rising; given = c.requires.given }

pub put-requires-in-Blank : goal.put-requires-in-Blank
put-requires-in-Blank g t c = record { rising = ap (is_sorted g.K.Ord.cmp) (sym (all_of c.args.run.now (ap entries_of c.in-Fork.is ∙ ap node_entries (sym c.deref_mut.ensures.value ∙ c.in-Blank.is)))) ∙ c.requires.rising; given = c.requires.given }

pub returns-in-Empty : goal.returns-in-Empty
returns-in-Empty g t c = put_alone g.K.Ord.cmp c.args.key c.args.value.now c.args.run.now c.put.result c.put.new.value c.put.new.self (ap entries_of c.in-Empty.is) (ap entries_of c.in-Empty.is) c.put.ensures.put

pub returns-in-Blank : goal.returns-in-Blank
returns-in-Blank g t c = put_alone g.K.Ord.cmp c.args.key c.args.value.now c.args.run.now c.put-in-Blank.result c.put-in-Blank.new.value c.put-in-Blank.new.self (ap entries_of c.in-Fork.is ∙ ap node_entries (sym c.deref_mut.ensures.value ∙ c.in-Blank.is)) (ap node_entries c.in-Blank.is) c.put-in-Blank.ensures.put

pub returns-in-Less : goal.returns-in-Less
returns-in-Less g t c =
    let forked = forked_beside g.K.Ord.cmp c.args.run.now (ap entries_of c.in-Fork.is) (sym c.deref_mut.ensures.value ∙ c.in-Full.is) c.requires.rising in
    subst (λ fs. IsPut g.K.Ord.cmp c.args.key c.args.value.now (c.args.run.now ++ entries_of c.args.tree.now) c.put_beside.new.back c.put_beside.new.value fs) (append_assoc c.put_beside.new.run (entries_of c.put_beside.new.tree) ((c.in-Full.held, c.in-Full.old) ∷ (c.in-Full.others ++ entries_of c.in-Full.right)))
    (put_sought g.K.Ord.cmp c.args.key c.args.value.now (sought_left g.K.Ord.cmp c.args.key g.met.K.Ord.total forked (sym c.cmp.ensures ∙ c.in-Less.is)) c.put_beside.new.back c.put_beside.new.value (c.put_beside.new.run ++ entries_of c.put_beside.new.tree) c.put_beside.ensures)

pub returns-in-Equal : goal.returns-in-Equal
returns-in-Equal g t c =
    let forked = forked_beside g.K.Ord.cmp c.args.run.now (ap entries_of c.in-Fork.is) (sym c.deref_mut.ensures.value ∙ c.in-Full.is) c.requires.rising in (
      c.exchange.ensures.before ∙ sym (find_here g.K.Ord.cmp c.args.key g.met.K.Ord.total forked (sym c.cmp.ensures ∙ c.in-Equal.is)),
      sym (ap (λ o. put_given g.K.Ord.cmp c.args.key o (c.args.run.now ++ entries_of c.args.tree.now)) c.exchange.ensures.given ∙ put_here g.K.Ord.cmp c.args.key g.met.K.Ord.total forked (sym c.cmp.ensures ∙ c.in-Equal.is) c.exchange.new.held
          ∙ append_assoc c.args.run.now (entries_of c.in-Full.left) ((c.in-Full.held, c.exchange.new.held) ∷ (c.in-Full.others ++ entries_of c.in-Full.right))),
    )

pub returns-in-Greater : goal.returns-in-Greater
returns-in-Greater g t c =
    let forked = forked_beside g.K.Ord.cmp c.args.run.now (ap entries_of c.in-Fork.is) (sym c.deref_mut.ensures.value ∙ c.in-Full.is) c.requires.rising in
    subst (λ fs. IsPut g.K.Ord.cmp c.args.key c.args.value.now (c.args.run.now ++ entries_of c.args.tree.now) c.put_beside-in-Greater.new.back c.put_beside-in-Greater.new.value fs) (append_assoc c.args.run.now (entries_of c.in-Full.left) ((c.in-Full.held, c.in-Full.old) ∷ (c.put_beside-in-Greater.new.run ++ entries_of c.put_beside-in-Greater.new.tree)))
    (put_sought g.K.Ord.cmp c.args.key c.args.value.now (sought_beyond g.K.Ord.cmp c.args.key g.met.K.Ord.total forked (sym c.cmp.ensures ∙ c.in-Greater.is)) c.put_beside-in-Greater.new.back c.put_beside-in-Greater.new.value (c.put_beside-in-Greater.new.run ++ entries_of c.put_beside-in-Greater.new.tree) c.put_beside-in-Greater.ensures)
