use Rattle.std.proofs.Common.{IfOk, List, [], refl, sym, ap, ◌∙◌, subst}
use Rattle.net_types.specs.Headers.{no_change}
use Rattle.net_types.specs.Policies as model
use Rattle.net_types.specs.declared.headers.Loc.TheVariants.{Stay, Nowhere}
use Rattle.std.specs.List.{slice_get}
use Rattle.net_types.specs.declared.cube.Cube.{Cube}
use Rattle.policy_syntax.specs.Views.{policy_of, pred_of}
use Rattle.policy_compile.specs.Given.{AreMade, given_by}
use Rattle.policy_compile.specs.Paths.{AreVisits}
use Rattle.policy_compile.proofs.PathLemmas.{visits-after, visits-lost, visits-both, visits-same, visits-then}
use Rattle.policy_compile.proofs.CoverLemmas.{ok-map}
use Rattle.policy_compile.proofs.StageLemmas.{visits-added, visits-filtered}
use Rattle.policy_compile.proofs.stages.+stages.Goals as goal

pub made_of-returns-in-Drop-clause-made : goal.made_of-returns-in-Drop-clause-made
made_of-returns-in-Drop-clause-made g t c = λ k m there.
    let ls = c.args.locations.now in
    let pid_of = g.N.Names.pid_of c.args.names.now in
    let items = given_by ls c.args.groups.now k in
    subst (AreVisits pid_of (policy_of c.args.tree.now) m items []) (sym (c.new.ensures ls k))
    (subst (λ p. AreVisits pid_of p m items [] []) c.in-Drop.ensures (visits-lost pid_of model.Drop m items (λ h l. refl)))

pub made_of-returns-in-Pass-clause-made : goal.made_of-returns-in-Pass-clause-made
made_of-returns-in-Pass-clause-made g t c =
    ok-map c.after.result _ _ (λ made same. λ k m there.
    let ls = c.args.locations.now in
    let pid_of = g.N.Names.pid_of c.args.names.now in
    let items = given_by ls c.args.groups.now k in
    subst (λ p. AreVisits pid_of p m items [] (given_by ls made k)) c.in-Pass.ensures
    (visits-after pid_of model.Pass m items no_change Stay (λ h l. refl) refl (given_by ls made k) _ c.none.ensures (same k))) c.after.ensures

pub made_of-returns-in-Block-clause-made : goal.made_of-returns-in-Block-clause-made
made_of-returns-in-Block-clause-made g t c =
    ok-map c.after-in-Block.result _ _ (λ made same. λ k m there.
    let ls = c.args.locations.now in
    let pid_of = g.N.Names.pid_of c.args.names.now in
    let items = given_by ls c.args.groups.now k in
    subst (λ p. AreVisits pid_of p m items [] (given_by ls made k)) c.in-Block.ensures
    (visits-after pid_of model.Block m items no_change Nowhere (λ h l. refl) refl (given_by ls made k) _ c.none-in-Block.ensures (same k))) c.after-in-Block.ensures

pub made_of-returns-in-Fwd-clause-made : goal.made_of-returns-in-Fwd-clause-made
made_of-returns-in-Fwd-clause-made g t c =
    ok-map c.forwarded.result _ _ (λ made f.
    subst (λ p. AreMade (g.N.Names.pid_of c.args.names.now) p c.args.locations.now c.args.within.now.cubes.now c.args.groups.now made) c.in-Fwd.ensures (f c.args.within.now.cubes.now c.in-Fwd.field-1)) c.forwarded.ensures

pub made_of-returns-in-Test-clause-made : goal.made_of-returns-in-Test-clause-made
made_of-returns-in-Test-clause-made g t c =
    ok-map c.kept.result _ _ (λ made same. λ k m there.
    let ls = c.args.locations.now in
    let pid_of = g.N.Names.pid_of c.args.names.now in
    let items = given_by ls c.args.groups.now k in
    subst (λ p. AreVisits pid_of p m items [] (given_by ls made k)) c.in-Test.ensures
    (visits-filtered pid_of (pred_of c.in-Test.pred.now) m items (given_by ls made k) (same k m there))) c.kept.ensures.kept

pub made_of-returns-in-Set-clause-made : goal.made_of-returns-in-Set-clause-made
made_of-returns-in-Set-clause-made g t c =
    ok-map c.after-in-Set.result _ _ (λ made same. λ k m there.
    let ls = c.args.locations.now in
    let pid_of = g.N.Names.pid_of c.args.names.now in
    let items = given_by ls c.args.groups.now k in
    subst (λ p. AreVisits pid_of p m items [] (given_by ls made k)) c.in-Set.ensures
    (visits-after pid_of (model.Set c.in-Set.set c.in-Set.field-1) m items c.in-Set.set Stay (λ h l. refl) refl (given_by ls made k) c.in-Set.set refl (same k))) c.after-in-Set.ensures

pub made_of-returns-in-Both-clause-made : goal.made_of-returns-in-Both-clause-made
made_of-returns-in-Both-clause-made g t c =
    subst (λ p. IfOk c.summed.result (AreMade (g.N.Names.pid_of c.args.names.now) p c.args.locations.now c.args.within.now.cubes.now c.args.groups.now)) c.in-Both.ensures c.summed.ensures.made

pub made_of-returns-in-Then-clause-made : goal.made_of-returns-in-Then-clause-made
made_of-returns-in-Then-clause-made g t c =
    subst (λ p. IfOk c.chained.result (AreMade (g.N.Names.pid_of c.args.names.now) p c.args.locations.now c.args.within.now.cubes.now c.args.groups.now)) c.in-Then.ensures c.chained.ensures.made

pub summed-returns-clause-made : goal.summed-returns-clause-made
summed-returns-clause-made g t c =
    ok-map c.regrouped.result _ _ (λ made same. λ k m there.
    let ls = c.args.locations.now in
    let pid_of = g.N.Names.pid_of c.args.names.now in
    let p = policy_of c.args.first.now in
    let q = policy_of c.args.second.now in
    let items = given_by ls c.args.groups.now k in
    let near = given_by ls c.add_made.new.either k in
    let far = given_by ls c.add_made-2.new.either k in
    let first : AreVisits pid_of p m items [] near = subst (λ xs. AreVisits pid_of p m items xs near) (c.new-either.ensures ls k) (c.in_ok-add_made.ensures.made k m there) in
    let second : AreVisits pid_of q m items near far = c.in_ok-add_made-2.ensures.made k m (ap (λ (cubes : List Cube). slice_get cubes k) c.add_made.ensures.cubes ∙ there) in
    visits-same pid_of (model.Both p q) m items [] far (given_by ls made k) (visits-both pid_of p q m items [] near far first second) (same ls k)) c.regrouped.ensures

pub chained-returns-clause-made : goal.chained-returns-clause-made
chained-returns-clause-made g t c = λ k m there.
    let ls = c.args.locations.now in
    let pid_of = g.N.Names.pid_of c.args.names.now in
    let p = policy_of c.args.first.now in
    let q = policy_of c.args.second.now in
    visits-then pid_of p q m (given_by ls c.args.groups.now k) (given_by ls c.put_made.new.made k) [] (given_by ls c.put_behind.new.made k) (c.in_ok-put_made.ensures.made k m there)
    (c.in_ok-put_behind.ensures.made k m (ap (λ (cubes : List Cube). slice_get cubes k) c.put_made.ensures.cubes ∙ there))

pub put_made-returns-in_ok-put_behind-in-Then-clause-made : goal.put_made-returns-in_ok-put_behind-in-Then-clause-made
put_made-returns-in_ok-put_behind-in-Then-clause-made g t c = λ k m there.
    let ls = c.args.locations.now in
    let pid_of = g.N.Names.pid_of c.args.names.now in
    let p = policy_of c.in-Then.first.now in
    let q = policy_of c.in-Then.second.now in
    let items = given_by ls c.args.groups.now k in
    let far = given_by ls c.put_behind.new.made k in
    subst (λ r. AreVisits pid_of r m items [] far) c.in-Then.ensures
    (visits-then pid_of p q m items (given_by ls c.put_made.new.made k) [] far (c.in_ok-put_made-in-Then.ensures.made k m there)
    (c.in_ok-put_behind-in-Then.ensures.made k m (ap (λ (cubes : List Cube). slice_get cubes k) c.put_made.ensures.cubes ∙ there)))

pub put_behind-returns-in_ok-put_behind-in-Then-2-clause-made : goal.put_behind-returns-in_ok-put_behind-in-Then-2-clause-made
put_behind-returns-in_ok-put_behind-in-Then-2-clause-made g t c = λ k m there.
    let ls = c.args.locations.now in
    let pid_of = g.N.Names.pid_of c.args.names.now in
    let p = policy_of c.in-Then.first.now in
    let q = policy_of c.in-Then.second.now in
    let items = given_by ls c.args.made.now k in
    let far = given_by ls c.put_behind-in-Then.new.made k in
    subst (λ r. AreVisits pid_of r m items [] far) c.in-Then.ensures
    (visits-then pid_of p q m items (given_by ls c.put_behind.new.made k) [] far (c.in_ok-put_behind-in-Then.ensures.made k m there)
    (c.in_ok-put_behind-in-Then-2.ensures.made k m (ap (λ (cubes : List Cube). slice_get cubes k) c.put_behind.ensures.cubes ∙ there)))

pub add_whole-returns-clause-made : goal.add_whole-returns-clause-made
add_whole-returns-clause-made g t c = λ k m there.
    let pid_of = g.N.Names.pid_of c.args.names.now in
    let ls = c.args.locations.now in
    visits-added pid_of (policy_of c.args.tree.now) m (given_by ls c.args.groups.now k) (given_by ls c.in_ok-made.made k) (given_by ls c.args.either.now k) (given_by ls c.add_after.new.self k) _ c.none.ensures
    (c.in_ok-made.ensures.made k m there) (c.in_ok-add_after.ensures k)

pub add_made-returns-in_ok-add_made-in-Both-2-clause-made : goal.add_made-returns-in_ok-add_made-in-Both-2-clause-made
add_made-returns-in_ok-add_made-in-Both-2-clause-made g t c = λ k m there.
    let ls = c.args.locations.now in
    let pid_of = g.N.Names.pid_of c.args.names.now in
    let p = policy_of c.in-Both.first.now in
    let q = policy_of c.in-Both.second.now in
    let items = given_by ls c.args.groups.now k in
    let begun = given_by ls c.args.either.now k in
    let near = given_by ls c.add_made.new.either k in
    let far = given_by ls c.add_made-in-Both.new.either k in
    subst (λ r. AreVisits pid_of r m items begun far) c.in-Both.ensures
    (visits-both pid_of p q m items begun near far (c.in_ok-add_made-in-Both.ensures.made k m there)
    (c.in_ok-add_made-in-Both-2.ensures.made k m (ap (λ (cubes : List Cube). slice_get cubes k) c.add_made.ensures.cubes ∙ there)))
