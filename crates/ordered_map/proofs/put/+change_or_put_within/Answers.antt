use Rattle.std.proofs.Common.{◌∷◌, ◌++◌, sym, ap, ◌∙◌, rules, arith, IsTrue}
use Rattle.std.specs.Prelude.{is_some}
use Rattle.std.specs.FinMap.Entries.{find, is_sorted}
use Rattle.ordered_map.specs.Entries.{entries_of}
use Rattle.ordered_map.proofs.PutLemmas.{changed_sought, find_here, forked_at, given_at, given_new, sought_beyond, sought_left}
use Rattle.ordered_map.proofs.put.+change_or_put_within.Goals as goal

pub change_or_put_within-requires : goal.change_or_put_within-requires
change_or_put_within-requires g t c κs within =
    let forked = forked_at g.K.Ord.cmp (ap entries_of c.in-Fork.is) (sym c.deref_mut.ensures.value ∙ c.in-Full.is) c.requires.rising in
    let sought = sought_left g.K.Ord.cmp c.args.key g.met.K.Ord.total forked (sym c.cmp.ensures ∙ c.in-Less.is) in
    let rising : IsTrue (is_sorted g.K.Ord.cmp (entries_of c.in-Full.left)) = sought.rising in
    let smaller = sought.smaller in
    search rules

pub change_or_put_beside-requires : goal.change_or_put_beside-requires
change_or_put_beside-requires g t c =
    let forked = forked_at g.K.Ord.cmp (ap entries_of c.in-Fork.is) (sym c.deref_mut.ensures.value ∙ c.in-Full.is) c.requires.rising in
    record { rising = (sought_beyond g.K.Ord.cmp c.args.key g.met.K.Ord.total forked (sym c.cmp.ensures ∙ c.in-Greater.is)).rising; given = c.requires.given }

pub returns-then-is_open : goal.returns-then-is_open
returns-then-is_open g t c =
    let forked = forked_at g.K.Ord.cmp (ap entries_of c.in-Fork.is) (sym c.deref_mut.ensures.value ∙ c.in-Full.is) c.requires.rising in
    let sought = sought_left g.K.Ord.cmp c.args.key g.met.K.Ord.total forked (sym c.cmp.ensures ∙ c.in-Less.is) in
    let absent = sought.find_is ∙ ap (find g.K.Ord.cmp c.args.key) c.if-is_open.ensures.first in
    let same = given_new g.K.Ord.cmp c.args.key (g.C.Change.changed c.args.change.now) c.args.value.now (entries_of c.args.tree.now) absent in
    (ap is_some (c.put_least.ensures.value ∙ sym absent), grind (arith, same))

pub returns-else-is_open : goal.returns-else-is_open
returns-else-is_open g t c =
    let forked = forked_at g.K.Ord.cmp (ap entries_of c.in-Fork.is) (sym c.deref_mut.ensures.value ∙ c.in-Full.is) c.requires.rising in
    changed_sought g.K.Ord.cmp c.args.key (g.C.Change.changed c.args.change.now) c.args.value.now (sought_left g.K.Ord.cmp c.args.key g.met.K.Ord.total forked (sym c.cmp.ensures ∙ c.in-Less.is)) c.change_or_put_within.new.back c.change_or_put_within.new.value (entries_of c.change_or_put_within.new.tree) c.change_or_put_within.ensures

pub returns-in-Equal : goal.returns-in-Equal
returns-in-Equal g t c =
    let forked = forked_at g.K.Ord.cmp (ap entries_of c.in-Fork.is) (sym c.deref_mut.ensures.value ∙ c.in-Full.is) c.requires.rising in (
      c.requires.given ∙ ap is_some (sym (find_here g.K.Ord.cmp c.args.key g.met.K.Ord.total forked (sym c.cmp.ensures ∙ c.in-Equal.is))),
      ap (λ v. entries_of c.in-Full.left ++ (c.in-Full.held, v) ∷ (c.in-Full.others ++ entries_of c.in-Full.right)) c.change.ensures ∙ sym (given_at g.K.Ord.cmp c.args.key g.met.K.Ord.total forked (g.C.Change.changed c.args.change.now) c.args.value.now (sym c.cmp.ensures ∙ c.in-Equal.is)),
    )

pub returns-in-Greater : goal.returns-in-Greater
returns-in-Greater g t c =
    let forked = forked_at g.K.Ord.cmp (ap entries_of c.in-Fork.is) (sym c.deref_mut.ensures.value ∙ c.in-Full.is) c.requires.rising in
    changed_sought g.K.Ord.cmp c.args.key (g.C.Change.changed c.args.change.now) c.args.value.now (sought_beyond g.K.Ord.cmp c.args.key g.met.K.Ord.total forked (sym c.cmp.ensures ∙ c.in-Greater.is)) c.change_or_put_beside.new.back c.change_or_put_beside.new.value (c.change_or_put_beside.new.run ++ entries_of c.change_or_put_beside.new.tree) c.change_or_put_beside.ensures
