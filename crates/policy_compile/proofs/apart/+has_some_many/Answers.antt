use Rattle.std.proofs.Common.{◌≡◌, ◌<◌, length, ◌∷◌, arith, inl, inr, sym, ◌∙◌, refl, subst}
use Rattle.std.proofs.lemmas.Bool.{eqb-true, eq-eqb, false≢true}
use Rattle.policy_compile.specs.Apart.{SomeIsMany, IsShared}
use Rattle.policy_compile.proofs.ApartLemmas.{IsMore, many-shared, few-shared, shared-more, shared-front, shared-back, not_empty, some-front, some-back, some-half}
use Rattle.policy_compile.proofs.apart.+has_some_many.Goals as goal

pub returns-then-len-gt-MOST : goal.returns-then-len-gt-MOST
returns-then-len-gt-MOST t c =
    let kept = c.args.kept.now.keys in
    let common = c.in_ok-common.common.items in
    let more = c.in_ok-shared.shared.keys in
    let first = c.in-Some.first.now in
    let others = c.in-Some.others.now in
    let e : c.args.sets.now ≡ first ∷ others = c.in-Some.ensures.cases.0 in
    let u : IsMore kept common more = subst (λ xs. IsMore kept xs more) c.deref.ensures.value c.in_ok-shared.ensures in (
      λ _. subst SomeIsMany (sym e) (many-shared kept common more first others (subst (IsShared kept) e c.requires) c.in_ok-common.ensures u (omega (arith, c.if-len-gt-MOST.true, c.len.ensures.len))),
      λ _. refl,
    )

pub returns-then-is_empty : goal.returns-then-is_empty
returns-then-is_empty t c =
    let kept = c.args.kept.now.keys in
    let common = c.in_ok-common.common.items in
    let more = c.in_ok-shared.shared.keys in
    let first = c.in-Some.first.now in
    let others = c.in-Some.others.now in
    let e : c.args.sets.now ≡ first ∷ others = c.in-Some.ensures.cases.0 in
    let u : IsMore kept common more = subst (λ xs. IsMore kept xs more) c.deref.ensures.value c.in_ok-shared.ensures in
    let none : length others ≡ 0 = eqb-true (length others) 0 (sym c.if-is_empty.ensures) in (
      λ b. absurd (false≢true b),
      λ m. absurd (few-shared kept common more first others none (subst (IsShared kept) e c.requires) c.in_ok-common.ensures u (omega (arith, c.if-len-gt-MOST.false, c.len.ensures.len)) (subst SomeIsMany e m)),
    )

pub has_some_many-requires : goal.has_some_many-requires
has_some_many-requires t c =
    let kept = c.args.kept.now.keys in
    let common = c.in_ok-common.common.items in
    let more = c.in_ok-shared.shared.keys in
    let first = c.in-Some.first.now in
    let others = c.in-Some.others.now in
    let e : c.args.sets.now ≡ first ∷ others = c.in-Some.ensures.cases.0 in
    let u : IsMore kept common more = subst (λ xs. IsMore kept xs more) c.deref.ensures.value c.in_ok-shared.ensures in
    let all = shared-more kept common more first others (subst (IsShared kept) e c.requires) c.in_ok-common.ensures u (omega (arith, c.if-len-gt-MOST.false, c.len.ensures.len)) in
    let less : length c.split_at.result.0.now < t = omega (arith, c.split_at.ensures.front_len, c.in-Some.ensures.cases.1, c.decreases) in
    (less, subst (IsShared more) (sym c.split_at.ensures.front) (shared-front _ more c.args.sets.now (subst (IsShared more) (sym e) all)))

pub returns-then-is_front : goal.returns-then-is_front
returns-then-is_front t c = (λ _. some-front _ c.args.sets.now (subst SomeIsMany c.split_at.ensures.front (c.in_ok-is_front.ensures.0 c.if-is_front.true)), λ _. refl)

pub has_some_many-requires-2 : goal.has_some_many-requires-2
has_some_many-requires-2 t c =
    let kept = c.args.kept.now.keys in
    let common = c.in_ok-common.common.items in
    let more = c.in_ok-shared.shared.keys in
    let first = c.in-Some.first.now in
    let others = c.in-Some.others.now in
    let e : c.args.sets.now ≡ first ∷ others = c.in-Some.ensures.cases.0 in
    let u : IsMore kept common more = subst (λ xs. IsMore kept xs more) c.deref.ensures.value c.in_ok-shared.ensures in
    let all = shared-more kept common more first others (subst (IsShared kept) e c.requires) c.in_ok-common.ensures u (omega (arith, c.if-len-gt-MOST.false, c.len.ensures.len)) in
    let some : 0 < length others = not_empty others (λ none. false≢true (c.if-is_empty.ensures ∙ eq-eqb (length others) 0 none)) in
    let less : length c.split_at.result.1.now < t = omega (arith, c.split_at.ensures.back_len, c.in-Some.ensures.cases.1, some, c.decreases) in
    (less, subst (IsShared more) (sym c.split_at.ensures.back) (shared-back _ more c.args.sets.now (subst (IsShared more) (sym e) all)))

pub returns : goal.returns
returns t c = (
  λ b. some-back _ c.args.sets.now (subst SomeIsMany c.split_at.ensures.back (c.in_ok-is_back.ensures.0 b)),
  λ m. elim (some-half _ c.args.sets.now m) [
    | inl front ↦ absurd (false≢true (sym c.if-is_front.false ∙ c.in_ok-is_front.ensures.1 (subst SomeIsMany (sym c.split_at.ensures.front) front)))
    | inr back ↦ c.in_ok-is_back.ensures.1 (subst SomeIsMany (sym c.split_at.ensures.back) back)
  ],
)
