use Rattle.std.proofs.Common.{◌≡◌, Some, length, refl, sym, ap, ◌∙◌}
use Rattle.std.specs.List.{slice_get}
use Rattle.std.proofs.lemmas.Option.{slice_get_read}
use Rattle.classifier.proofs.SeenLemmas.{cube_eq_exact}
use Rattle.cells.proofs.BlockLemmas.{inner-found}
use Rattle.cells.proofs.inside.Inside.find.Goals as goal

pub returns-then-eq : goal.returns-then-eq
returns-then-eq c =
    let self = c.args.self.now in
    let n = c.in_ok-number.field-0.now in
    let i = c.in_ok-inner.inner.now in
    let all = c.deref.result.now in
    let read = c.in_ok-inner.ensures.lookup in
    let at : slice_get all n ≡ Some i = slice_get_read all (length all) n i refl read.3.0 read.1 in
    inner-found self.cells.now self.known.items c.args.outer.now n i
    (ap (λ xs. slice_get xs n) (sym c.deref.ensures.value) ∙ at)
    (cube_eq_exact i.cube c.args.outer.now (sym c.eq.ensures ∙ c.if-eq.true)) self.are
