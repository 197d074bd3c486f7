-- The class that has the tag gets the prefix, and no other one has it.
use Rattle.std.proofs.Common.{◌≡◌, ◌++◌, ◌∷◌, [], sym, ap, ◌∙◌, rules}
use Rattle.std.specs.Prelude.{slice_index_or}
use Rattle.std.specs.declared.cmp.Ordering.TheVariants.{Equal}
use Rattle.std.proofs.lemmas.Fn.{always_returns_same}
use Rattle.fast_path.proofs.ClassMembers.{absent_join, found_join, none_join}
use Rattle.fast_path.proofs.ClassSearch.{class_absent}
use Rattle.fast_path.specs.declared.planned.Class.{Class}
use Rattle.net_types.specs.Keys.{tag_cmp}
use Rattle.fast_path.proofs.classes.join.Goals as goal

pub returns-in_default : goal.returns-in_default
returns-in_default c = sym (none_join c.args.change c.in_default.is c.args.classes.now)

pub returns-in_ok-push : goal.returns-in_ok-push
returns-in_ok-push c =
    let ks = c.args.classes.now in
    let x : Class = c.index-classes-at.result in
    let there : slice_index_or ks c.in-Ok.at x ≡ x = sym c.index-classes-at.is in
    let by_key = c.in-Ok.ensures.position (λ (y : Class). y.tag) (always_returns_same _ _ _ (λ a r f called. search rules)) in
    let tied : tag_cmp x.tag c.in-Some.tag ≡ Equal = ap (λ (y : Class). tag_cmp y.tag c.in-Some.tag) c.index-classes-at.is ∙ by_key x in
    let given = c.in_ok-push.ensures.ok ∙ ap (λ (y : Class). y.members ++ c.args.change.prefix ∷ []) there in
    found_join c.args.change c.in-Some.tag c.in-Some.is ks c.in-Ok.at x _ c.requires c.in-Ok.ensures.bound there tied
    (λ i. let made : Class = record { tag = (there i).tag; sig = (there i).sig; members = given i } in made)

pub returns-in_default-binary_search_by_key : goal.returns-in_default-binary_search_by_key
returns-in_default-binary_search_by_key c =
    let by_key = c.in_default-binary_search_by_key.ensures.position (λ (y : Class). y.tag) (always_returns_same _ _ _ (λ a r f called. search rules)) in
    sym (absent_join c.args.change c.in-Some.tag c.in-Some.is c.args.classes.now (class_absent c.args.classes.now c.in-Some.tag c.in_default-binary_search_by_key.field-0 c.requires by_key))
