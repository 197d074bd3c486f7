-- The cells are those of the cubes.
use Rattle.std.proofs.Common.{◌<◌, ◌≤◌, List, [], length, arith, sym, subst}
use Rattle.cells.specs.Cells.{AreMeets}
use Rattle.classifier.specs.Lines.{add_lines}
use Rattle.classifier.specs.declared.line.Line.{Line}
use Rattle.net_types.specs.Sets.{Member}
use Rattle.net_types.specs.declared.cube.Cube.{Cube}
use Rattle.block_build.proofs.ByCellLemmas.{many-built, ok-map, some-map}
use Rattle.block_build.specs.Bounds.{IsBuilt}
use Rattle.block_build.specs.ByCells.{AreTheirs, dropping}
use Rattle.block_build.proofs.by_cells.by_cells.Goals as goal

pub returns-then-len-limit : goal.returns-then-len-limit
returns-then-len-limit c =
    let sending = c.args.sending.now in
    let rs = c.args.receivers.now in
    let theirs : AreTheirs rs sending.rules.now c.add_each.new.cells = λ atoms theirs own.
    c.add_each.ensures.meets atoms (subst (AreMeets atoms) (sym c.new-cells.ensures) (λ x k. elim k [ ])) (subst (AreMeets atoms) (sym c.deref.ensures.value) (c.in_ok-atoms.ensures.theirs atoms theirs own)) in
    let cubes = c.cubes.result.now in
    let all : AreTheirs rs sending.rules.now cubes = subst (AreTheirs rs sending.rules.now) (sym c.cubes.ensures.value) theirs in
    ok-map c.too_many.result _ _ (λ o many. some-map o _ _ (λ v p.
    let over : length (add_lines [] (dropping cubes)) ≤ c.args.limit → ⊥ = λ within.
    let more : c.args.limit < length (add_lines [] (dropping cubes)) = subst (λ (zs : List Line). c.args.limit < length zs) p.0 p.1 in
    absurd (omega (arith, more, within)) in
    subst (λ (zs : List Line). IsBuilt c.args.limit sending.best sending.offers.now rs sending.rules.now zs) (sym p.0) (many-built c.args.limit sending.best sending.offers.now rs sending.rules.now cubes over all)) many) c.too_many.ensures

pub lines_by-requires : goal.lines_by-requires
lines_by-requires c =
    let sending = c.args.sending.now in
    let rs = c.args.receivers.now in
    let has = c.in_ok-atoms.ensures.has in
    let turned = c.turn_to.ensures in
    let there : (x : Cube) → Member x c.in_ok-atoms.atoms.items → Member x c.turn_to.new.self.cells = λ x k.
    turned.all x (c.in_ok-are_all.ensures.there c.if-not-are_all.false x (subst (Member x) (sym c.deref.ensures.value) k)) in
    record {
      closed = turned.closed;
      has = record { own = λ x k. there x.cube (has.own x k); theirs = λ r k y i. there y.cube (has.theirs r k y i) };
      theirs = λ atoms theirs own x k.
          c.add_each.ensures.meets atoms (subst (AreMeets atoms) (sym c.new-cells.ensures) (λ y i. elim i [ ])) (subst (AreMeets atoms) (sym c.deref.ensures.value) (c.in_ok-atoms.ensures.theirs atoms theirs own)) x (turned.no_more x k);
    }
