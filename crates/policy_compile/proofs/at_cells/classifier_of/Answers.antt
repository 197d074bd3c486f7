use Rattle.std.proofs.Common.{◌≡◌, [], sym, ap, ◌∙◌, subst}
use Rattle.classifier.specs.Lines.{add_lines}
use Rattle.classifier.specs.Meaning.{HasDistinctCubes, ends_with_everything}
use Rattle.classifier.proofs.ShapeLemmas.{distinct-add_lines, ends-add_lines}
use Rattle.policy_compile.proofs.at_cells.classifier_of.Goals as goal
use Rattle.policy_compile.proofs.at_cells.classifier_of.Goals.{After-from_vec}

-- the rules that can be reached
made : (c : After-from_vec) → c.from_vec.result ≡ add_lines [] c.args.lines.items
made c = c.from_vec.ensures ∙ c.in_ok-push_lines.ensures.lines ∙ ap (λ xs. add_lines xs c.args.lines.items) c.new-reached.ensures.items

pub from_lines-requires-clause-distinct : goal.from_lines-requires-clause-distinct
from_lines-requires-clause-distinct c = subst HasDistinctCubes (sym (made c)) (distinct-add_lines [] c.args.lines.items tt)

pub from_lines-requires-clause-total : goal.from_lines-requires-clause-total
from_lines-requires-clause-total c = ap ends_with_everything (made c) ∙ ends-add_lines c.args.lines.items c.requires
