use Rattle.std.proofs.Common.{length, sym, ap, ◌∙◌}
use Rattle.std.specs.FinMap.{entries}
use Rattle.std.proofs.lemmas.List.{length-map}
use Rattle.net_types.proofs.PlaceLemmas.{entries_of_sorted}
use Rattle.net_types.specs.Keys.{tag_cmp}
use Rattle.prefix_classes.proofs.CountLemmas.{sorted-sigs}
use Rattle.prefix_classes.specs.Classes.{Classes}
use Rattle.prefix_classes.specs.Counts.{sig_entry}
use Rattle.prefix_classes.proofs.class_map.ClassMap.tagged.Goals as goal

pub returns : goal.returns
returns c =
    c.len.ensures ∙ sym (length-map c.self.inside.kept.items sig_entry)
    ∙ ap length (sym (entries_of_sorted tag_cmp _ (sorted-sigs c.self.inside.kept.items ∙ c.self.invariant.sorted)))
    ∙ ap (λ (s : Classes). length (entries s.kept)) c.self.view_is
