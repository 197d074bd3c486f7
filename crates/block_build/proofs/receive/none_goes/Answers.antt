-- The next result doesn't go there, and in the end none is left.
use Rattle.std.proofs.Common.{◌≡◌, ◌<◌, true, get_or, inl, inr, length, arith, rules, sym, ap, subst, ◌∙◌}
use Rattle.std.proofs.lemmas.Bool.{false≢true}
use Rattle.std.proofs.lemmas.List.{drop_all, drop_more}
use Rattle.net_types.specs.Headers.{no_change}
use Rattle.net_types.specs.Sets.{Member}
use Rattle.net_types.specs.declared.headers.Loc.TheVariants.{Stay}
use Rattle.block_build.proofs.receive.none_goes.Goals as goal

pub loop-pair-preserved : goal.loop-pair-preserved
loop-pair-preserved c = λ i stands goes.
    let items = c.args.items.now in
    let at = c.loop-pair.pair-index in
    let within : at < length items = omega arith in
    elim (subst (Member i) (drop_more items at (no_change, Stay) within) (c.loop-pair.invariant i stands goes)) [
      | inl here ↦
          let same : (get_or items at (no_change, Stay)).1 ≡ c.args.loc = ap (λ p. p.1) (sym here) ∙ goes in
          let yes : c.eq.result ≡ true = search rules in
          absurd (false≢true (sym c.if-eq.false ∙ yes))
      | inr later ↦ later
    ]

pub returns : goal.returns
returns c = λ yes i stands goes.
    subst (Member i) (drop_all c.loop-pair.pair-index c.args.items.now (omega arith)) (c.loop-pair.invariant i stands goes)
