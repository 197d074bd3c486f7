use Rattle.std.proofs.Common.{◌++◌, [], drop, map, sym, ap, ◌∙◌}
use Rattle.std.proofs.lemmas.List.{append-nil, nil_from_length}
use Rattle.fast_path.proofs.GroupLemmas.{none_kept}
use Rattle.fast_path.specs.Committing.{classes_of, kept_of}
use Rattle.fast_path.specs.declared.fresh.Fresh.{Fresh}
use Rattle.fast_path.proofs.classes.without_members.Goals as goal

pub returns-in_default : goal.returns-in_default
returns-in_default c =
    let ks = c.loop-tag.classes.items in
    let ts = drop c.loop-tag.tag-index c.args.tags.now in
    let none = nil_from_length c.loop-tag.left.rest.items (sym c.loop-tag.left.rest.ok.0 ∙ c.in_default.ensures.cases.0) in
    sym (ap (λ ns. ks ++ classes_of [] ns) (ap (λ fs. kept_of ts (map (λ (f : Fresh). f.sig) fs)) none ∙ none_kept ts) ∙ append-nil ks)
    ∙ c.loop-tag.invariant
