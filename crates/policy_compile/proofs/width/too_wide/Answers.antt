use Rattle.std.proofs.Common.{◌≡◌, ◌↔◌, Bool, true, false, refl, inl, inr, sym, ◌∙◌}
use Rattle.std.proofs.lemmas.Bool.{false≢true}
use Rattle.net_types.specs.Policies.{Policy}
use Rattle.net_types.specs.Widths.{IsTooWide}
use Rattle.net_types.proofs.WidthTests.{as_tested}
use Rattle.policy_syntax.specs.Views.{policy_of}
use Rattle.policy_compile.specs.Narrow.{HasWideMods, HasWideMeets}
use Rattle.policy_compile.proofs.width.too_wide.Goals as goal

by_mods : (p : Policy) → HasWideMods p → true ≡ true ↔ IsTooWide p
by_mods p m = (λ _. record { part = m.part; stands = m.stands; wide = inr m.many }, λ _. refl)

by_meets : (p : Policy) (mods meets : Bool) → mods ≡ false → (mods ≡ true ↔ HasWideMods p) → (meets ≡ true ↔ HasWideMeets p) → meets ≡ true ↔ IsTooWide p
by_meets p mods meets few on_mods on_meets = (
  λ t. let m = on_meets.0 t in record { part = m.part; stands = m.stands; wide = inl m.many },
  λ w. elim w.wide [
    | inl many ↦ on_meets.1 (record { part = w.part; stands = w.stands; many = many })
    | inr many ↦ absurd (false≢true (sym few ∙ on_mods.1 (record { part = w.part; stands = w.stands; many = many })))
  ],
)

pub returns-then-by_mods-clause-wide : goal.returns-then-by_mods-clause-wide
returns-then-by_mods-clause-wide c = by_mods (policy_of c.args.tree.now) (c.in_ok-by_mods.ensures.0 c.if-by_mods.true)

pub returns-then-by_mods-clause-tested : goal.returns-then-by_mods-clause-tested
returns-then-by_mods-clause-tested c =
    let p = policy_of c.args.tree.now in
    as_tested p true (by_mods p (c.in_ok-by_mods.ensures.0 c.if-by_mods.true))

pub returns-clause-wide : goal.returns-clause-wide
returns-clause-wide c = by_meets (policy_of c.args.tree.now) _ _ c.if-by_mods.false c.in_ok-by_mods.ensures c.in_ok-by_meets.ensures

pub returns-clause-tested : goal.returns-clause-tested
returns-clause-tested c =
    let p = policy_of c.args.tree.now in
    as_tested p _ (by_meets p _ _ c.if-by_mods.false c.in_ok-by_mods.ensures c.in_ok-by_meets.ensures)
