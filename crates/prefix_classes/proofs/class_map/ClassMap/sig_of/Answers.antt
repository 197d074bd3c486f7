-- What is kept of a tag is found by its signature.
use Rattle.std.proofs.Common.{sym, ap, ◌∙◌}
use Rattle.std.specs.FinMap.{get}
use Rattle.prefix_classes.proofs.CountLemmas.{get-sigs}
use Rattle.prefix_classes.specs.Classes.{Classes}
use Rattle.prefix_classes.proofs.class_map.ClassMap.sig_of.Goals as goal

pub returns : goal.returns
returns c =
    c.sig_of.ensures
    ∙ sym (get-sigs c.self.inside.kept.items c.args.tag c.self.invariant.sorted) ∙ ap (λ (s : Classes). get s.kept c.args.tag) c.self.view_is
