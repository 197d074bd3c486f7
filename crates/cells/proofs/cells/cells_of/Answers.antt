use Rattle.std.proofs.Common.{◌≡◌, ◌+◌, ◌∷◌, [], ◌++◌, take, sym, ap, ◌∙◌, subst}
use Rattle.std.proofs.lemmas.List.{take_more}
use Rattle.cells.specs.Cells.{AreCells}
use Rattle.cells.proofs.CellLemmas.{cells-none}
use Rattle.cells.proofs.cells.cells_of.Goals as goal

pub loop-atom-init : goal.loop-atom-init
loop-atom-init c = subst (AreCells []) (sym c.new-cells.ensures) cells-none

pub loop-atom-preserved : goal.loop-atom-preserved
loop-atom-preserved c =
    let i = c.loop-atom.atom-index in
    let atoms = c.args.atoms.now in
    let x = c.atom-item.result in
    let more : take (i + 1) atoms ≡ take i atoms ++ x ∷ [] = take_more atoms i x c.loop-atom-test.true ∙ ap (λ d. take i atoms ++ d ∷ []) (sym c.atom-item.is) in
    subst (λ xs. AreCells xs c.add.new.self) (sym more) (c.in_ok-add.ensures.cells (take i atoms) c.loop-atom.invariant)
