-- One of the results is one of the front ones or of those behind them.
use Rattle.std.proofs.Common.{◌≡◌, ◌||◌, Bool, true, false, List, [], ◌∷◌, ◌++◌, refl, sym, ap, ◌∙◌}
use Rattle.classifier.specs.Items.{Item}
use Rattle.net_types.specs.declared.address.Pid.{Pid}
use Rattle.block_build.specs.Offers.{has_one_for, is_for}
use Rattle.block_build.proofs.offers.has_one_from.Goals as goal

either : (best who : Pid) (front back : List Item) → has_one_for best who (front ++ back) ≡ (has_one_for best who back || has_one_for best who front)
either best who [] back = or_none (has_one_for best who back)
  where
    or_none : (b : Bool) → b ≡ (b || false)
    or_none true = refl
    or_none false = refl
either best who (i ∷ front) back = ap (λ b. is_for best who i.1 || b) (either best who front back) ∙ or_swap (is_for best who i.1) (has_one_for best who back) (has_one_for best who front)
  where
    or_swap : (a b c : Bool) → (a || (b || c)) ≡ (b || (a || c))
    or_swap true true c = refl
    or_swap true false c = refl
    or_swap false b c = refl

pub returns-then-has_one_for : goal.returns-then-has_one_for
returns-then-has_one_for c =
    let front : List Item = c.split_at.result.0.now in
    let back : List Item = c.split_at.result.1.now in
    sym (ap (has_one_for c.args.best c.args.who) c.split_at.ensures.by_index.0 ∙ either c.args.best c.args.who front back
    ∙ ap (λ b. b || has_one_for c.args.best c.args.who front) (sym c.has_one_for.ensures ∙ c.if-has_one_for.true))

pub returns : goal.returns
returns c =
    let front : List Item = c.split_at.result.0.now in
    let back : List Item = c.split_at.result.1.now in
    c.has_one_for-2.ensures
    ∙ sym (ap (has_one_for c.args.best c.args.who) c.split_at.ensures.by_index.0 ∙ either c.args.best c.args.who front back
    ∙ ap (λ b. b || has_one_for c.args.best c.args.who front) (sym c.has_one_for.ensures ∙ c.if-has_one_for.false))
