-- The tags are forgotten one after the other.
use Rattle.std.proofs.Common.{◌≡◌, List, [], ◌∷◌, ◌∙◌, refl}
use Rattle.std.specs.FinMap.{FinMap, remove}
use Rattle.net_types.specs.Keys.{tag_cmp}
use Rattle.net_types.specs.declared.address.Tag.{Tag}
use Rattle.net_types.specs.declared.route.Part.{Part}
use Rattle.prefix_classes.specs.Classes.{forgotten}
use Rattle.fast_path.specs.Committing.{kept_without}
use Rattle.fast_path.proofs.parts.forget_all.Goals as goal

forgotten_is : (kept : FinMap tag_cmp (List Part)) (ts : List Tag) → forgotten kept ts ≡ kept_without kept ts
forgotten_is kept [] = refl
forgotten_is kept (t ∷ ts) = forgotten_is (remove kept t) ts

pub returns-clause-kept : goal.returns-clause-kept
returns-clause-kept c = c.forget_each.ensures.kept ∙ forgotten_is c.args.classes.now.kept c.args.dead.now
