-- The first rule that holds the cell gives what leaves.
use Rattle.std.proofs.Common.{◌≡◌, IfOk, List, refl, sym, ap, ◌∙◌, subst}
use Rattle.std.specs.Prelude.{option_copied}
use Rattle.classifier.specs.Items.{Item, add_all}
use Rattle.block_build.proofs.ByCellLemmas.{held-received}
use Rattle.block_build.proofs.exits.beside_many.Goals as goal

pub returns-in-Some : goal.returns-in-Some
returns-in-Some c =
    subst (λ items. IfOk c.joined.result (λ r. r ≡ add_all c.args.others items))
    (held-received c.args.rows.now.hop c.args.cell.now c.args.rows.now.lines.now _ (sym (ap option_copied c.in-Some.is) ∙ c.line_at.ensures c.args.cell.now c.requires))
    c.joined.ensures

pub returns-in-None : goal.returns-in-None
returns-in-None c =
    subst (λ (items : List Item). c.args.others ≡ add_all c.args.others items)
    (held-received c.args.rows.now.hop c.args.cell.now c.args.rows.now.lines.now _ (sym (ap option_copied c.in-None.is) ∙ c.line_at.ensures c.args.cell.now c.requires))
    refl
