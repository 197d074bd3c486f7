use Rattle.std.proofs.Common.{◌≡◌, ◌∷◌, ◌++◌, [], rules, refl, sym, ap, ◌∙◌}
use Rattle.std.proofs.lemmas.List.{append-nil}
use Rattle.std.specs.Ordering.{is_lt}
use Rattle.ordered_map.specs.Entries.{node_entries, put_given}
use Rattle.ordered_map.proofs.SplitLemmas.{given_over, less}
use Rattle.ordered_map.proofs.PutLemmas.{halved, not_smaller, sought_among, sought_left}
use Rattle.ordered_map.proofs.put.put_past.Goals as goal
use Rattle.ordered_map.proofs.put.put_past.Goals.{then-is_lt, else-is_lt}

pub put_among-requires : goal.put_among-requires
put_among-requires g c =
    let forked = halved g.K.Ord.cmp c.args.run.now c.halve.new.self c.halve.new.upper c.take_first.new.self (c.in-Some.least, c.in-Some.first) c.halve.ensures.whole c.in-Some.ensures.first c.take_first.ensures.rest c.requires.rising in
    let sought = sought_left g.K.Ord.cmp c.args.key g.met.K.Ord.total forked (sym c.cmp.ensures ∙ less _ (sym c.is_lt.ensures ∙ c.if-is_lt.true)) in
    record { rising = sought.rising; absent = sym sought.find_is ∙ c.requires.absent; room = search rules; given = c.requires.given }

pub put_among-requires-else-is_lt : goal.put_among-requires-else-is_lt
put_among-requires-else-is_lt g c =
    let forked = halved g.K.Ord.cmp c.args.run.now c.halve.new.self c.halve.new.upper c.take_first.new.self (c.in-Some.least, c.in-Some.first) c.halve.ensures.whole c.in-Some.ensures.first c.take_first.ensures.rest c.requires.rising in
    let more = not_smaller g.K.Ord.cmp c.args.key g.met.K.Ord.total forked c.requires.absent (ap is_lt (sym c.cmp.ensures) ∙ sym c.is_lt.ensures ∙ c.if-is_lt.false) in
    let sought = sought_among g.K.Ord.cmp c.args.key g.met.K.Ord.total forked more refl in
    record { rising = sought.rising; absent = sym sought.find_is ∙ c.requires.absent; room = search rules; given = c.requires.given }

pub returns-then-is_below-clause-entries : goal.returns-then-is_below-clause-entries
returns-then-is_below-clause-entries g c =
    ap (λ ds. c.args.run.now ++ ds) c.put_alone.ensures.entries
    ∙ sym (given_over g.K.Ord.cmp c.args.key c.args.run.now [] c.if-is_below.ensures.past c.args.value.now)
    ∙ ap (put_given g.K.Ord.cmp c.args.key c.args.value.now) (append-nil c.args.run.now)

pub returns-clause-entries : goal.returns-clause-entries
returns-clause-entries g c =
    let forked = halved g.K.Ord.cmp c.args.run.now c.halve.new.self c.halve.new.upper c.take_first.new.self (c.in-Some.least, c.in-Some.first) c.halve.ensures.whole c.in-Some.ensures.first c.take_first.ensures.rest c.requires.rising in
    let front : node_entries c.full.result ≡ (c.in-Some.least, c.in-Some.first) ∷ c.if-is_lt.upper = c.full.ensures.entries in
    elim c.if-is_lt.branch [
      | then-is_lt w ↦
          let sought = sought_left g.K.Ord.cmp c.args.key g.met.K.Ord.total forked (sym c.cmp.ensures ∙ less _ (sym c.is_lt.ensures ∙ w.if-is_lt.true)) in
          (λ i. (w.run-is ∙ w.put_among.ensures.entries) i ++ (front ∙ ap (λ u. (c.in-Some.least, c.in-Some.first) ∷ u) (w.upper-is ∙ sym (append-nil c.take_first.new.self))) i) ∙ sym (sought.put_is c.args.value.now)
      | else-is_lt w ↦
          let more = not_smaller g.K.Ord.cmp c.args.key g.met.K.Ord.total forked c.requires.absent (ap is_lt (sym c.cmp.ensures) ∙ sym c.is_lt.ensures ∙ w.if-is_lt.false) in
          let sought = sought_among g.K.Ord.cmp c.args.key g.met.K.Ord.total forked more refl in
          (λ i. w.run-is i ++ (front ∙ ap (λ u. (c.in-Some.least, c.in-Some.first) ∷ u) (w.upper-is ∙ w.put_among-else-is_lt.ensures.entries ∙ sym (append-nil (put_given g.K.Ord.cmp c.args.key c.args.value.now c.take_first.new.self)))) i) ∙ sym (sought.put_is c.args.value.now)
    ]
