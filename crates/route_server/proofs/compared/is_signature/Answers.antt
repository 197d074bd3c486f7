use Rattle.std.proofs.Common.{◌<◌, ◌≤◌, ◌+◌, ◌-◌, true, false, drop, length, sym, ap, subst, ◌∙◌, arith}
use Rattle.std.specs.Cmp.Lexicographic.{pointwise}
use Rattle.std.specs.Option.{option_and_then, option_map, option_copied}
use Rattle.net_types.specs.Attributes.{same_part}
use Rattle.route_server.specs.Rows.{settled_by, held_by, held_at}
use Rattle.route_server.proofs.ChoiceSteps.{chosen_at}
use Rattle.route_server.proofs.CompareSteps.{compare_more, compare_end, parts_some, parts_none, parts_end}
use Rattle.route_server.proofs.Parts.{parts_from, offers_by}
use Rattle.route_server.proofs.compared.is_signature.Goals as goal
use Rattle.route_server.proofs.compared.is_signature.Goals.{in-Some+else-not-has_part, in-None}

pub returns-then-not-has_part : goal.returns-then-not-has_part
returns-then-not-has_part c =
    let r = settled_by c.args.terms in
    let p = c.args.prefix in
    let row = c.args.row.now in
    let n = c.loop-number.number in
    let count = length c.args.terms.names.now.participants in
    let low = subst (λ xs. n < length xs) c.participants.ensures.all c.loop-number-test.true in
    let own = ap (option_and_then (held_at r row)) c.place_of-place.ensures ∙ chosen_at r p row c.args.places.now n c.requires.chosen low in
    let h = c.in-Some.held.now in
    compare_more same_part c.args.parts.now c.loop-number.next (record { sender = record { 0 = n }; best = h.from; offers = offers_by r (record { 0 = n }) h.from p row }) (parts_from r p row n (count - n)) (parts_from r p row (n + 1) (count - (n + 1))) false _
    (parts_some r p row n count h low (sym (ap (λ o. option_map (held_by r) (option_copied o)) c.in-Some.is) ∙ c.held_in.ensures.route r ∙ own))
    (sym c.if-not-has_part.true ∙ c.has_part.ensures) c.loop-number.invariant.left

pub loop-number-preserved : goal.loop-number-preserved
loop-number-preserved c =
    let r = settled_by c.args.terms in
    let p = c.args.prefix in
    let row = c.args.row.now in
    let n = c.loop-number.number in
    let count = length c.args.terms.names.now.participants in
    let low = subst (λ xs. n < length xs) c.participants.ensures.all c.loop-number-test.true in
    let own = ap (option_and_then (held_at r row)) c.place_of-place.ensures ∙ chosen_at r p row c.args.places.now n c.requires.chosen low in
    elim c.match-held_in.branch [
      | in-Some+else-not-has_part w ↦ rw w.next-is (record {
        fewer = let k = c.loop-number.invariant.fewer in omega (arith, k);
        left = compare_more same_part c.args.parts.now c.loop-number.next (record { sender = record { 0 = n }; best = w.in-Some.held.now.from; offers = offers_by r (record { 0 = n }) w.in-Some.held.now.from p row }) (parts_from r p row n (count - n)) (parts_from r p row (n + 1) (count - (n + 1))) true _
            (parts_some r p row n count w.in-Some.held.now low (sym (ap (λ o. option_map (held_by r) (option_copied o)) w.in-Some.is) ∙ c.held_in.ensures.route r ∙ own))
            (sym w.if-not-has_part.false ∙ w.has_part.ensures) c.loop-number.invariant.left;
      })
      | in-None w ↦ rw w.next-is (record {
        fewer = let k = c.loop-number.invariant.fewer in omega (arith, k);
        left = ap (pointwise same_part (drop c.loop-number.next c.args.parts.now)) (sym (parts_none r p row n count low (sym (ap (λ o. option_map (held_by r) (option_copied o)) w.in-None.is) ∙ c.held_in.ensures.route r ∙ own))) ∙ c.loop-number.invariant.left;
      })
    ]

pub returns : goal.returns
returns c =
    let r = settled_by c.args.terms in
    let p = c.args.prefix in
    let row = c.args.row.now in
    let n = c.loop-number.number in
    let high = subst (λ xs. length xs ≤ n) c.participants.ensures.all c.loop-number-test.false in
    sym (compare_end same_part c.args.parts.now c.loop-number.next)
    ∙ ap (pointwise same_part (drop c.loop-number.next c.args.parts.now)) (sym (parts_end r p row n (length c.args.terms.names.now.participants) (omega (arith, high))))
    ∙ c.loop-number.invariant.left
