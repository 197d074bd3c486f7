-- One more group.
use Rattle.std.proofs.Common.{List, ◌++◌, append_assoc, sym, ap, ◌∙◌}
use Rattle.classifier.specs.declared.line.Line.{Line}
use Rattle.block_build.specs.Groups.{lines_within}
use Rattle.block_build.specs.declared.group.Group.{Group}
use Rattle.block_build.proofs.GroupLemmas.{lines_within-push}
use Rattle.block_build.proofs.groups.groups_of.Goals as goal

pub loop-left-preserved : goal.loop-left-preserved
loop-left-preserved c =
    let kept : List Group = c.loop-left.groups.items in
    let front : List Line = c.split_at.result.0.now in
    let back : List Line = c.split_at.result.1.now in
    ap (λ groups. lines_within groups ++ back) c.in_ok-push.ensures.items
    ∙ ap (λ xs. xs ++ back) (lines_within-push kept c.in_ok-new.field-0 ∙ ap (λ xs. lines_within kept ++ xs) c.in_ok-new.ensures)
    ∙ append_assoc (lines_within kept) front back
    ∙ ap (λ xs. lines_within kept ++ xs) (sym c.split_at.ensures.by_index.0)
    ∙ c.loop-left.invariant
