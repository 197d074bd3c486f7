use Rattle.std.proofs.Common.{◌≡◌, ◌<◌, arith, length, sym, ◌∙◌}
use Rattle.exchange_core.proofs.Elsewhere.{none_more, other_place, same_place, some_there}
use Rattle.exchange_core.proofs.taking.is_told_elsewhere.Goals as goal
use Rattle.exchange_core.proofs.taking.is_told_elsewhere.Goals.{else-at-who-via-then-at-who+else-tells, else-at-who-via-else-at-who}

pub returns-then-tells : goal.returns-then-tells
returns-then-tells c =
    let told = c.args.adverts.now.told in
    let below : c.loop-at.at < length told = omega (arith, c.len-at-end.ensures.told, c.loop-at-test.true) in
    let apart : c.loop-at.at ≡ c.args.who.0 → ⊥ = λ same. omega (arith, same, c.if-at-who.true) in
    sym (some_there told c.args.who.0 c.args.tag c.loop-at.at below (other_place told c.args.who.0 c.args.tag c.loop-at.at apart ∙ sym c.tells.ensures ∙ c.if-tells.true))

pub loop-at-preserved : goal.loop-at-preserved
loop-at-preserved c =
    let told = c.args.adverts.now.told in
    let below : c.loop-at.at < length told = omega (arith, c.len-at-end.ensures.told, c.loop-at-test.true) in
    elim c.else-at-who.branch [
      | else-at-who-via-then-at-who+else-tells w ↦
          let apart : c.loop-at.at ≡ c.args.who.0 → ⊥ = λ same. omega (arith, same, w.if-at-who.true) in
          none_more told c.args.who.0 c.args.tag c.loop-at.at below c.loop-at.invariant (other_place told c.args.who.0 c.args.tag c.loop-at.at apart ∙ sym w.tells.ensures ∙ w.if-tells.false)
      | else-at-who-via-else-at-who w ↦ none_more told c.args.who.0 c.args.tag c.loop-at.at below c.loop-at.invariant (same_place told c.args.who.0 c.args.tag c.loop-at.at w.if-at-who.false)
    ]
