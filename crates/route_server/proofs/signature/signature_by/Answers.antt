use Rattle.std.proofs.Common.{sym, ap, subst, ◌∙◌, ◌<◌, length, ◌++◌, ◌-◌, ◌+◌}
use Rattle.std.specs.Option.{option_and_then}
use Rattle.route_server.specs.Rows.{settled_by, held_at}
use Rattle.route_server.proofs.ChoiceSteps.{chosen_at}
use Rattle.route_server.proofs.Parts.{parts_from, part_more, part_none}
use Rattle.route_server.proofs.signature.signature_by.Goals as goal
use Rattle.route_server.proofs.signature.signature_by.Goals.{in-Some+in_ok-push-in-Some, in-None}

pub part_in-requires-clause-best : goal.part_in-requires-clause-best
part_in-requires-clause-best c =
    let r = settled_by c.args.terms in
    let n = c.loop-number.number in
    ap (option_and_then (held_at r c.args.row.now)) c.place_of-place.ensures
    ∙ chosen_at r c.args.prefix c.args.row.now c.args.places.now n c.requires.chosen (subst (λ xs. n < length xs) c.participants.ensures.all c.loop-number-test.true)

pub loop-number-preserved : goal.loop-number-preserved
loop-number-preserved c =
    let r = settled_by c.args.terms in
    let p = c.args.prefix in
    let row = c.args.row.now in
    let n = c.loop-number.number in
    let count = length c.args.terms.names.now.participants in
    elim c.match-part.branch [
      | in-Some+in_ok-push-in-Some w ↦ ap (λ s. s ++ parts_from r p row (n + 1) (count - (n + 1))) (w.sig-is ∙ w.in_ok-push-in-Some.ensures.ok)
          ∙ part_more r p row n count c.loop-number.sig w.in-Some.own _ (subst (λ xs. n < length xs) c.participants.ensures.all c.loop-number-test.true) (sym w.in-Some.is ∙ c.in_ok-part.ensures) c.loop-number.invariant
      | in-None w ↦ ap (λ s. s ++ parts_from r p row (n + 1) (count - (n + 1))) w.sig-is
          ∙ part_none r p row n count c.loop-number.sig _ (subst (λ xs. n < length xs) c.participants.ensures.all c.loop-number-test.true) (sym w.in-None.is ∙ c.in_ok-part.ensures) c.loop-number.invariant
    ]
