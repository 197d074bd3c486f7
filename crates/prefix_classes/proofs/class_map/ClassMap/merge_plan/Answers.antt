use Rattle.std.proofs.Common.{◌≡◌, sym, ap, subst, ◌∙◌}
use Rattle.std.specs.Prelude.{Some}
use Rattle.std.specs.FinMap.{entries, get}
use Rattle.std.proofs.lemmas.Result.{IfOk-weaker}
use Rattle.prefix_classes.proofs.MoveLemmas.{all_merge, tag_placed}
use Rattle.prefix_classes.proofs.NextLemmas.{tag_is_kept}
use Rattle.prefix_classes.specs.Classes.{Classes}
use Rattle.prefix_classes.specs.Merging.{IsMergeOf}
use Rattle.prefix_classes.specs.Moving.{AreMoves}
use Rattle.prefix_classes.proofs.class_map.ClassMap.merge_plan.Goals as goal

pub moves_by-requires : goal.moves_by-requires
moves_by-requires c = λ p t is.
    let tags : c.self.inside.tags.map ≡ c.args.self.now.tag = ap (λ (s : Classes). s.tag) c.self.view_is in
    tag_placed c.args.self.now.tag c.args.self.now.kept c.args.grouping.now c.requires p t (ap (λ m. get m p) (sym tags) ∙ is)
    (tag_is_kept c.self.inside.tags.map _ c.args.self.now.kept c.self.invariant (ap (λ (s : Classes). s.kept) c.self.view_is) p (Some t) (sym is))

pub returns : goal.returns
returns c =
    let tags : c.self.inside.tags.map ≡ c.args.self.now.tag = ap (λ (s : Classes). s.tag) c.self.view_is in
    IfOk-weaker c.moves_by.result (AreMoves c.args.grouping.now (entries c.self.inside.tags.map)) (IsMergeOf c.args.self.now.tag c.args.self.now.kept)
    (λ moves are. all_merge c.args.self.now.tag c.args.self.now.kept c.args.grouping.now c.requires
    (λ p t is. tag_is_kept c.self.inside.tags.map _ c.args.self.now.kept c.self.invariant (ap (λ (s : Classes). s.kept) c.self.view_is) p (Some t) (sym (ap (λ m. get m p) tags ∙ is)))
    moves (subst (λ m. AreMoves c.args.grouping.now (entries m) moves) tags are))
    c.moves_by.ensures
