use Rattle.std.proofs.Common.{◌≡◌, ◌&&◌, not, ap, ◌∙◌, subst}
use Rattle.place_sets.specs.Places.{has_place}
use Rattle.policy_compile.specs.Columns.{outcome_at}
use Rattle.policy_compile.proofs.outcomes.Within.others.Goals as goal

pub returns-in-All : goal.returns-in-All
returns-in-All c = λ f tells k m there. ap not (subst (λ o. outcome_at o k ≡ f m) c.in-All.is (tells k m there))

pub returns-in-Nowhere : goal.returns-in-Nowhere
returns-in-Nowhere c = λ f tells k m there. ap not (subst (λ o. outcome_at o k ≡ f m) c.in-Nowhere.is (tells k m there))

pub returns-in_ok-others-in-In : goal.returns-in_ok-others-in-In
returns-in_ok-others-in-In c = λ f tells k m there.
    let all = c.args.self.now.are.all_are k m there in
    c.in_ok-others-in-In.ensures k
    ∙ ap (λ b. b && not (has_place c.in-In.places k)) all
    ∙ ap not (subst (λ o. outcome_at o k ≡ f m) c.in-In.is (tells k m there))
