use Rattle.std.proofs.Common.{◌≡◌, sym, ap, subst}
use Rattle.std.proofs.lemmas.Result.{IfOk-weaker}
use Rattle.prefix_classes.proofs.UsedLemmas.{used_are}
use Rattle.prefix_classes.specs.Classes.{AreUsedTags, Classes}
use Rattle.prefix_classes.specs.Counts.{IsCounted, used_in}
use Rattle.prefix_classes.proofs.class_map.ClassMap.used_tags.Goals as goal

pub returns : goal.returns
returns c =
    let counted = subst (λ m. IsCounted m c.self.inside.kept.items) (ap (λ (s : Classes). s.tag) c.self.view_is) c.self.invariant in
    IfOk-weaker c.used.result (λ tags. tags.items ≡ used_in c.self.inside.kept.items) (λ tags. AreUsedTags c.args.self.now.tag tags.items)
    (λ tags are. subst (AreUsedTags c.args.self.now.tag) (sym are) (used_are c.args.self.now.tag c.self.inside.kept.items counted))
    c.used.ensures
