-- Rules in groups of runs: what is made of the groups one by one is what is made of their rules.
use Rattle.std.proofs.Common.{◌≡◌, ℕ, ◌+◌, ◌<◌, List, [], ◌∷◌, ◌++◌, append_assoc, length, get_or, drop, sym, ap, ◌∙◌}
use Rattle.std.proofs.lemmas.List.{append-nil, at_drop_more}
use Rattle.classifier.proofs.AddLemmas.{add_lines_append}
use Rattle.classifier.specs.Lines.{add_lines}
use Rattle.classifier.specs.Runs.{lines_in}
use Rattle.classifier.specs.declared.line.Line.{Line}
use Rattle.net_types.specs.declared.address.PortNo.{PortNo}
use Rattle.block_build.specs.Groups.{lines_within}
use Rattle.block_build.specs.declared.group.Group.{Group}
use Rattle.block_build.proofs.ExitLemmas.{received-append, row_received}

pub lines_within-push : (groups : List Group) (group : Group) → lines_within (groups ++ group ∷ []) ≡ lines_within groups ++ lines_in group.runs.items
lines_within-push [] group = append-nil (lines_in group.runs.items)
lines_within-push (g ∷ groups) group = ap (λ xs. lines_in g.runs.items ++ xs) (lines_within-push groups group) ∙ sym (append_assoc (lines_in g.runs.items) (lines_within groups) (lines_in group.runs.items))

-- the step of the loop over groups
pub group_added : (hop : PortNo) (x : Line) (groups : List Group) (i : ℕ) (group : Group) → i < length groups → group ≡ get_or groups i group → (kept : List Line)
    → add_lines kept (row_received hop x (lines_within (drop i groups))) ≡ add_lines (add_lines kept (row_received hop x (lines_in group.runs.items))) (row_received hop x (lines_within (drop (i + 1) groups)))
group_added hop x groups i group lt at kept =
    ap (add_lines kept)
    (at_drop_more (λ (gs : List Group). row_received hop x (lines_within gs)) groups i group lt ∙ ap (λ (g : Group). row_received hop x (lines_within (g ∷ drop (i + 1) groups))) (sym at)
    ∙ received-append hop x (lines_in group.runs.items) (lines_within (drop (i + 1) groups)))
    ∙ add_lines_append kept (row_received hop x (lines_in group.runs.items)) (row_received hop x (lines_within (drop (i + 1) groups)))
