-- A tag whose signature is not kept has no entry, and no prefix has it.
use Rattle.std.proofs.Common.{sym, ap, subst, ◌∙◌, refl}
use Rattle.prefix_classes.proofs.CountLemmas.{find_not_kept}
use Rattle.prefix_classes.proofs.KeepLemmas.{keep_new}
use Rattle.prefix_classes.specs.Classes.{Classes}
use Rattle.prefix_classes.specs.Counts.{IsCounted, sigs_of}
use Rattle.prefix_classes.proofs.class_map.ClassMap.keep.Goals as goal

pub put-requires-clause-new : goal.put-requires-clause-new
put-requires-clause-new c = find_not_kept c.self.inside.kept.items c.args.tag c.args.self.now.kept c.self.invariant.sorted (ap (λ (s : Classes). s.kept) c.self.view_is) c.requires.new

pub invariant_of-self : goal.invariant_of-self
invariant_of-self c =
    let it = keep_new _ _ c.args.tag (record { sig = c.args.sig; members = 0 }) c.args.self.now.kept refl c.self.invariant (ap (λ (s : Classes). s.kept) c.self.view_is) c.requires.new in
    subst (IsCounted c.self.inside.tags.map) (sym c.put.ensures.items) it.0

pub returns-clause-kept : goal.returns-clause-kept
returns-clause-kept c =
    let it = keep_new _ _ c.args.tag (record { sig = c.args.sig; members = 0 }) c.args.self.now.kept refl c.self.invariant (ap (λ (s : Classes). s.kept) c.self.view_is) c.requires.new in
    ap sigs_of c.put.ensures.items ∙ it.1
