-- The table is the last one.
use Rattle.std.proofs.Common.{List, sym, ap, ◌∙◌, subst}
use Rattle.block_build.proofs.TableLemmas.{table-last, tables-push}
use Rattle.block_build.specs.Tables.{AreTables}
use Rattle.block_build.specs.declared.tables.Table.{Table}
use Rattle.block_build.proofs.tables.Tables.put.Goals as goal
use Rattle.block_build.proofs.tables.Tables.put.Goals.{then-self-gt-MOST, else-self-gt-MOST}

pub returns-clause-number : goal.returns-clause-number
returns-clause-number c =
    let before = c.if-self-gt-MOST.self.all in
    table-last before.items c.push.new.self.items c.args.table c.len-number.result c.in_ok-push.ensures.items (c.len-number.ensures ∙ before.ok.0)

pub returns-clause-tables : goal.returns-clause-tables
returns-clause-tables c = λ cells are is.
    let before = c.if-self-gt-MOST.self.all.items in
    let still : AreTables cells before = elim c.if-self-gt-MOST.branch [
      | then-self-gt-MOST w ↦ subst (λ (v : List Table). AreTables cells v) (sym (ap (λ s. s.all.items) w.self-is ∙ w.clear.ensures.items)) (λ t k. elim k [ ])
      | else-self-gt-MOST w ↦ subst (λ (v : List Table). AreTables cells v) (sym (ap (λ s. s.all.items) w.self-is)) are
    ] in
    tables-push cells before c.push.new.self.items c.args.table c.in_ok-push.ensures.items is still
