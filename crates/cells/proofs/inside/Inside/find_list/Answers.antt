use Rattle.std.proofs.Common.{◌≡◌, Some, length, refl, sym, ap, ◌∙◌}
use Rattle.std.specs.List.{slice_get}
use Rattle.std.proofs.lemmas.Option.{slice_get_read}
use Rattle.classifier.proofs.SeenLemmas.{cube_eq_exact}
use Rattle.cells.proofs.ListedLemmas.{listed-found}
use Rattle.cells.proofs.inside.Inside.find_list.Goals as goal

pub returns-then-eq : goal.returns-then-eq
returns-then-eq c =
    let self = c.args.self.now in
    let n = c.in_ok-number.number in
    let l = c.in_ok-list.list.now in
    let all = c.deref.result.now in
    let read = c.in_ok-list.ensures.lookup in
    let at : slice_get all n ≡ Some l = slice_get_read all (length all) n l refl read.3.0 read.1 in
    listed-found self.cells.now self.lists.items c.args.cube.now n l
    (ap (λ xs. slice_get xs n) (sym c.deref.ensures.value) ∙ at)
    (cube_eq_exact l.cube c.args.cube.now (sym c.eq.ensures ∙ c.if-eq.true)) self.listed
