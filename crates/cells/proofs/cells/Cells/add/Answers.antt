use Rattle.std.proofs.Common.{◌∷◌, [], ◌++◌, sym, ◌∙◌, subst}
use Rattle.net_types.specs.Sets.{Member}
use Rattle.net_types.proofs.FindLemmas.{Member-take}
use Rattle.cells.specs.Cells.{AreCells, AreMeets, IsClosed}
use Rattle.cells.proofs.CellLemmas.{cells-more, cells-same, cut-meets}
use Rattle.cells.proofs.ClosedLemmas.{among-more, cut-closed, cut-kept, cut-there, meets-wider, ok-from}
use Rattle.cells.proofs.cells.Cells.add.Goals as goal

pub returns-then-contains-clause-cells : goal.returns-then-contains-clause-cells
returns-then-contains-clause-cells c = λ atoms f.
    let x = c.args.atom.now in
    cells-same atoms c.args.self.now x f (subst (Member x) c.self.view_is (c.self.invariant.among x (sym c.contains.ensures ∙ c.if-contains.true)))

pub returns-then-contains-clause-meets : goal.returns-then-contains-clause-meets
returns-then-contains-clause-meets c = λ atoms f. meets-wider c.args.atom.now c.args.self.now atoms f

pub returns-in_err-within-clause-meets : goal.returns-in_err-within-clause-meets
returns-in_err-within-clause-meets c = λ atoms f.
    meets-wider c.args.atom.now c.cut_more.new.cubes.items atoms (subst (AreMeets atoms) (sym (c.in_err-within.ensures.unchanged ∙ c.self.view_is)) f)

pub invariant_of-self-2 : goal.invariant_of-self-2
invariant_of-self-2 c =
    let x = c.args.atom.now in
    let old = c.self.inside.cubes.items in
    let new = c.cut_more.new.cubes.items in
    let cut = c.in_ok-within.ensures.cut in
    record {
      closed = subst IsClosed (sym cut) (cut-closed old x c.self.invariant.closed);
      among = c.note.ensures new (λ a m. subst (Member a) c.deref.ensures.value (Member-take c.in_ok-within.within c.deref.result.now a m))
          (among-more c.self.inside.known old new (λ a m. subst (Member a) (sym cut) (cut-kept x old a m)) c.self.invariant.among);
    }

pub returns-clause-there : goal.returns-clause-there
returns-clause-there c = ok-from c.note.result _ (subst (Member c.args.atom.now) (sym c.in_ok-within.ensures.cut) (cut-there c.args.atom.now c.self.inside.cubes.items))

pub returns-clause-cells : goal.returns-clause-cells
returns-clause-cells c = ok-from c.note.result _ (λ atoms f.
    let x = c.args.atom.now in
    subst (AreCells (atoms ++ x ∷ [])) (sym c.in_ok-within.ensures.cut) (cells-more atoms c.self.inside.cubes.items x (subst (AreCells atoms) (sym c.self.view_is) f)))

pub returns-clause-meets : goal.returns-clause-meets
returns-clause-meets c = λ atoms f.
    let x = c.args.atom.now in
    subst (AreMeets (atoms ++ x ∷ [])) (sym c.in_ok-within.ensures.cut) (cut-meets atoms c.self.inside.cubes.items x (subst (AreMeets atoms) (sym c.self.view_is) f))

pub returns-clause-kept : goal.returns-clause-kept
returns-clause-kept c = λ a m.
    subst (Member a) (sym c.in_ok-within.ensures.cut) (cut-kept c.args.atom.now c.self.inside.cubes.items a (subst (Member a) (sym c.self.view_is) m))
