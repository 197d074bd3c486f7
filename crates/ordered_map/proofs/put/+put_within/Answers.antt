use Rattle.std.proofs.Common.{◌++◌, sym, ap, ◌∙◌, rules, arith, IsTrue}
use Rattle.std.specs.FinMap.Entries.{find, is_sorted}
use Rattle.ordered_map.specs.Entries.{entries_of, put_given}
use Rattle.ordered_map.proofs.PutLemmas.{find_here, forked_at, put_here, put_sought, sought_beyond, sought_left}
use Rattle.ordered_map.proofs.put.+put_within.Goals as goal

pub put_within-requires : goal.put_within-requires
put_within-requires g t c κs within =
    let forked = forked_at g.K.Ord.cmp (ap entries_of c.in-Fork.is) (sym c.deref_mut.ensures.value ∙ c.in-Full.is) c.requires.rising in
    let sought = sought_left g.K.Ord.cmp c.args.key g.met.K.Ord.total forked (sym c.cmp.ensures ∙ c.in-Less.is) in
    let rising : IsTrue (is_sorted g.K.Ord.cmp (entries_of c.in-Full.left)) = sought.rising in
    let smaller = sought.smaller in
    search rules

pub put_beside-requires : goal.put_beside-requires
put_beside-requires g t c =
    let forked = forked_at g.K.Ord.cmp (ap entries_of c.in-Fork.is) (sym c.deref_mut.ensures.value ∙ c.in-Full.is) c.requires.rising in
    record { rising = (sought_beyond g.K.Ord.cmp c.args.key g.met.K.Ord.total forked (sym c.cmp.ensures ∙ c.in-Greater.is)).rising; given = c.requires.given }

pub returns-then-is_open : goal.returns-then-is_open
returns-then-is_open g t c =
    let forked = forked_at g.K.Ord.cmp (ap entries_of c.in-Fork.is) (sym c.deref_mut.ensures.value ∙ c.in-Full.is) c.requires.rising in
    let sought = sought_left g.K.Ord.cmp c.args.key g.met.K.Ord.total forked (sym c.cmp.ensures ∙ c.in-Less.is) in
    let absent = sought.find_is ∙ ap (find g.K.Ord.cmp c.args.key) c.if-is_open.ensures.first in
    (c.put_least.ensures.value ∙ sym absent, grind (arith))

pub returns-else-is_open : goal.returns-else-is_open
returns-else-is_open g t c =
    let forked = forked_at g.K.Ord.cmp (ap entries_of c.in-Fork.is) (sym c.deref_mut.ensures.value ∙ c.in-Full.is) c.requires.rising in
    put_sought g.K.Ord.cmp c.args.key c.args.value.now (sought_left g.K.Ord.cmp c.args.key g.met.K.Ord.total forked (sym c.cmp.ensures ∙ c.in-Less.is)) c.put_within.new.back c.put_within.new.value (entries_of c.put_within.new.tree) c.put_within.ensures

pub returns-in-Equal : goal.returns-in-Equal
returns-in-Equal g t c =
    let forked = forked_at g.K.Ord.cmp (ap entries_of c.in-Fork.is) (sym c.deref_mut.ensures.value ∙ c.in-Full.is) c.requires.rising in (
      c.exchange.ensures.before ∙ sym (find_here g.K.Ord.cmp c.args.key g.met.K.Ord.total forked (sym c.cmp.ensures ∙ c.in-Equal.is)),
      sym (ap (λ o. put_given g.K.Ord.cmp c.args.key o (entries_of c.args.tree.now)) c.exchange.ensures.given ∙ put_here g.K.Ord.cmp c.args.key g.met.K.Ord.total forked (sym c.cmp.ensures ∙ c.in-Equal.is) c.exchange.new.held),
    )

pub returns-in-Greater : goal.returns-in-Greater
returns-in-Greater g t c =
    let forked = forked_at g.K.Ord.cmp (ap entries_of c.in-Fork.is) (sym c.deref_mut.ensures.value ∙ c.in-Full.is) c.requires.rising in
    put_sought g.K.Ord.cmp c.args.key c.args.value.now (sought_beyond g.K.Ord.cmp c.args.key g.met.K.Ord.total forked (sym c.cmp.ensures ∙ c.in-Greater.is)) c.put_beside.new.back c.put_beside.new.value (c.put_beside.new.run ++ entries_of c.put_beside.new.tree) c.put_beside.ensures
