-- The rules to leave by have the cubes of the receiver's own.
use Rattle.std.proofs.Common.{◌≡◌, IfOk, sym, ap, ◌∙◌, subst}
use Rattle.classifier.specs.Meaning.{cubes_of}
use Rattle.block_build.proofs.ShapeBlocks.{cubes-received}
use Rattle.block_build.specs.Groups.{lines_within}
use Rattle.block_build.specs.Kept.{kept_lines}
use Rattle.block_build.specs.declared.kept.Kept.{Kept}
use Rattle.block_build.specs.declared.receive.Receiver.{Receiver}
use Rattle.block_build.proofs.exits.Exits.cubes.Goals as goal

pub returns-in-Many : goal.returns-in-Many
returns-in-Many c =
    let rows = c.in-Many.rows in
    subst (λ (r : Receiver). IfOk c.cubes_of.result (λ v. v.items ≡ cubes_of r.lines)) c.self.view_is
    (subst (λ (kept : Kept). IfOk c.cubes_of.result (λ v. v.items ≡ cubes_of (kept_lines kept))) (sym c.in-Many.is)
    (subst (λ cs. IfOk c.cubes_of.result (λ v. v.items ≡ cs)) (ap cubes_of (sym rows.same) ∙ sym (cubes-received rows.hop (lines_within rows.groups.items))) c.cubes_of.ensures))
