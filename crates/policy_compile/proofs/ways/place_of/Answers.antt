use Rattle.std.proofs.Common.{◌≡◌, ◌∷◌, [], List, slice_index_or, inl, inr, ap, sym, subst, ◌∙◌, take}
use Rattle.std.proofs.lemmas.Bool.{false≢true}
use Rattle.std.proofs.lemmas.List.{take_more}
use Rattle.net_types.specs.declared.headers.Loc.{Loc}
use Rattle.net_types.specs.declared.headers.Loc.TheVariants.{Stay}
use Rattle.net_types.specs.contracts.headers.LocPartialEq.TheImpl.{ghosts as derived}
use Rattle.net_types.specs.Sets.{Member}
use Rattle.net_types.proofs.SetLemmas.{Member-append_cases}
use Rattle.policy_compile.proofs.GroupLemmas.{same_location}
use Rattle.policy_compile.proofs.ways.place_of.Goals as goal

pub loop-place-preserved : goal.loop-place-preserved
loop-place-preserved c = λ m.
    let locs = c.args.locations.now in
    let loc = c.args.loc in
    let i = c.loop-place.place in
    let x = slice_index_or locs i Stay in
    elim (Member-append_cases (take i locs) (x ∷ []) loc (subst (Member loc) (take_more locs i Stay c.loop-place-test.true) m)) [
      | inl old ↦ c.loop-place.invariant old
      | inr new ↦ elim new [
        | inl e ↦ false≢true (sym c.if-eq.false ∙ c.eq.ensures ∙ ap (λ (y : Loc). derived.eq y loc) (sym e) ∙ same_location loc)
        | inr none ↦ elim none [ ]
      ]
    ]
