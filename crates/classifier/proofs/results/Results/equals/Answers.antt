use Rattle.std.proofs.Common.{ap, ◌∙◌}
use Rattle.std.specs.Cmp.Lexicographic.{pointwise}
use Rattle.std.proofs.lemmas.Slice.Eq.{slice_eq-Decides}
use Rattle.classifier.specs.Items.{same_item}
use Rattle.classifier.proofs.UnionLemmas.{item-decides}
use Rattle.classifier.proofs.results.Results.equals.Goals as goal

pub returns : goal.returns
returns c =
    slice_eq-Decides item-decides c.args.self.now c.args.others.now c.are_same.result (c.are_same.ensures ∙ ap (λ xs. pointwise same_item xs c.items-2.result.now) c.items.ensures ∙ ap (pointwise same_item c.args.self.now) c.items-2.ensures)
