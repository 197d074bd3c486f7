use Rattle.std.proofs.Common.{◌≡◌, ◌++◌, ◌∷◌, [], length, map, take, sym, ap, subst, ◌∙◌}
use Rattle.std.proofs.lemmas.List.{length-map, take_more}
use Rattle.fast_path.proofs.ClassMembers.{classes_more, written}
use Rattle.fast_path.proofs.PlanFound.{classes_rise, tags_before}
use Rattle.fast_path.specs.Building.{AreInOrder}
use Rattle.fast_path.specs.Committing.{classes_of, kept_of}
use Rattle.fast_path.specs.Members.{joined}
use Rattle.fast_path.specs.declared.fresh.Fresh.{Fresh}
use Rattle.fast_path.proofs.classes.with_tags.Goals as goal

pub join-requires : goal.join-requires
join-requires c =
    subst AreInOrder (sym (c.deref_mut.ensures.value ∙ c.loop-change.invariant))
    (classes_rise (take c.loop-change.change-index c.args.changes.now) c.args.tags.now (map (λ (f : Fresh). f.sig) c.args.groups.items) (tags_before c.args.tags.now c.requires))

pub loop-change-preserved : goal.loop-change-preserved
loop-change-preserved c =
    let ks = c.loop-change.classes.items in
    let change = c.change-item.result in
    let cs = c.args.changes.now in
    let at = c.loop-change.change-index in
    let kept = kept_of c.args.tags.now (map (λ (f : Fresh). f.sig) c.args.groups.items) in
    let now = c.in_ok-join.ensures ∙ ap (map (joined change)) c.deref_mut.ensures.value in
    let long : length c.join.new.classes ≡ length ks = ap length now ∙ length-map ks (joined change) in
    let full = sym c.deref_mut.ensures.len ∙ ap length c.deref_mut.ensures.value in
    written c.loop-change.classes.len ks c.join.new.classes long full
    ∙ now ∙ ap (map (joined change)) c.loop-change.invariant
    ∙ sym (classes_more (take at cs) change kept)
    ∙ ap (λ xs. classes_of xs kept) (ap (λ x. take at cs ++ x ∷ []) c.change-item.is ∙ sym (take_more cs at change c.loop-change-test.true))
