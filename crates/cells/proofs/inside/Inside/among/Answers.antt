use Rattle.std.proofs.Common.{arith, ◌<◌, List, get_or, unwrap_or, sym, ap, ◌∙◌, subst}
use Rattle.net_types.specs.declared.cube.Cube.{Cube}
use Rattle.net_types.specs.Sets.{Member}
use Rattle.cells.specs.Blocks.{KeepsInner, single_fields}
use Rattle.cells.proofs.BlockLemmas.{Member-got, keeps-field}
use Rattle.cells.proofs.inside.Inside.among.Goals as goal

pub loop-outer-preserved : goal.loop-outer-preserved
loop-outer-preserved c =
    let cells = c.args.self.now.cells.now in
    let cube = c.args.cube.now in
    let i = c.loop-outer.outer-index in
    let x = c.outer-item.result in
    let same = c.single_fields.ensures in
    let below : i < 6 = omega (arith, c.loop-outer-test.true, c.type_inv.outer-items) in
    let stands : Member x (single_fields cube) = Member-got (single_fields cube) i x below (c.outer-item.is ∙ ap (λ (xs : List Cube). get_or xs i x) same) in
    let left = unwrap_or c.loop-outer.narrow c.args.blocks.now in
    let new = unwrap_or c.in_ok-narrow.narrow c.args.blocks.now in
    let one = get_or c.single_fields.result i x in
    let step : KeepsInner cells one left new = subst (λ (cs : List Cube). KeepsInner cs one left new) c.loop-outer.invariant.1 c.in_ok-narrow.ensures.keeps in
    let own : KeepsInner cells x left new = subst (λ (y : Cube). KeepsInner cells y left new) (sym c.outer-item.is) step in
    (keeps-field cells cube x c.args.blocks.now left new stands own c.loop-outer.invariant.0, c.in_ok-narrow.ensures.cells ∙ c.loop-outer.invariant.1)
