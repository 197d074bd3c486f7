-- The first rule that holds the cell gives what leaves.
use Rattle.std.proofs.Common.{◌≡◌, OnOk, List, sym, ap, ◌∙◌, refl, subst}
use Rattle.std.specs.Prelude.{option_copied}
use Rattle.classifier.specs.Items.{AreNew, Item, add_all}
use Rattle.block_build.proofs.ByCellLemmas.{held-received}
use Rattle.block_build.proofs.exits.push_many.Goals as goal

pub push_received-requires : goal.push_received-requires
push_received-requires c =
    subst (AreNew c.args.row.now.items)
    (sym (held-received c.args.rows.now.hop c.args.cell.now c.args.rows.now.lines.now _ (sym (ap option_copied c.in-Some.is) ∙ c.line_at.ensures c.args.cell.now c.requires.place)))
    c.requires.new

pub returns-in-Some : goal.returns-in-Some
returns-in-Some c =
    subst (λ (items : List Item). OnOk c.push_received.result (c.push_received.new.row.items ≡ add_all c.args.row.now.items items))
    (held-received c.args.rows.now.hop c.args.cell.now c.args.rows.now.lines.now _ (sym (ap option_copied c.in-Some.is) ∙ c.line_at.ensures c.args.cell.now c.requires.place))
    c.push_received.ensures

pub returns-in-None : goal.returns-in-None
returns-in-None c =
    subst (λ (items : List Item). c.args.row.now.items ≡ add_all c.args.row.now.items items)
    (held-received c.args.rows.now.hop c.args.cell.now c.args.rows.now.lines.now _ (sym (ap option_copied c.in-None.is) ∙ c.line_at.ensures c.args.cell.now c.requires.place))
    refl
