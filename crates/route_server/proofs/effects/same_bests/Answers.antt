use Rattle.std.proofs.Common.{◌<◌, ◌≤◌, length, subst, sym, ap, ◌∙◌}
use Rattle.std.specs.List.{list_all}
use Rattle.net_types.specs.Attributes.{same_option, same_attrs}
use Rattle.route_server.specs.Effects.{best_by_row}
use Rattle.route_server.proofs.ChoiceLaws.{bests_at, all_more}
use Rattle.route_server.proofs.EffectLaws.{pids_end}
use Rattle.route_server.proofs.effects.same_bests.Goals as goal

pub returns-then-not-stays : goal.returns-then-not-stays
returns-then-not-stays c = λ r s p first then was are.
    let n = c.loop-number.number in
    let low = subst (λ xs. n < length xs) c.participants.ensures.all c.loop-number-test.true in
    all_more (λ to. same_option same_attrs (best_by_row r p c.args.old.now to) (best_by_row s p c.args.new.now to)) n (length c.args.names.now.participants) _ _ low
    (sym (bests_at r s p c.args.old.now c.args.new.now c.args.earlier.now c.args.places.now n c.place_of-before.result c.place_of-after.result was are (subst (λ xs. n < length xs) (sym first) low) (subst (λ xs. n < length xs) (sym then) low) c.place_of-before.ensures c.place_of-after.ensures)
    ∙ sym c.stays.ensures ∙ c.if-not-stays.true) (c.loop-number.invariant.left r s p first then was are)

pub loop-number-preserved : goal.loop-number-preserved
loop-number-preserved c = record {
  known = sym c.stays.ensures ∙ c.if-not-stays.false;
  left = λ r s p first then was are.
      let n = c.loop-number.number in
      let low = subst (λ xs. n < length xs) c.participants.ensures.all c.loop-number-test.true in
      all_more (λ to. same_option same_attrs (best_by_row r p c.args.old.now to) (best_by_row s p c.args.new.now to)) n (length c.args.names.now.participants) _ _ low
      (sym (bests_at r s p c.args.old.now c.args.new.now c.args.earlier.now c.args.places.now n c.place_of-before.result c.place_of-after.result was are (subst (λ xs. n < length xs) (sym first) low) (subst (λ xs. n < length xs) (sym then) low) c.place_of-before.ensures c.place_of-after.ensures)
      ∙ sym c.stays.ensures ∙ c.if-not-stays.false) (c.loop-number.invariant.left r s p first then was are);
}

pub returns : goal.returns
returns c = λ r s p first then was are.
    let n = c.loop-number.number in
    let high = subst (λ xs. length xs ≤ n) c.participants.ensures.all c.loop-number-test.false in
    sym (ap (list_all (λ to. same_option same_attrs (best_by_row r p c.args.old.now to) (best_by_row s p c.args.new.now to))) (pids_end n (length c.args.names.now.participants) high))
    ∙ c.loop-number.invariant.left r s p first then was are
