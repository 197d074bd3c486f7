-- The table with these cubes is found.
use Rattle.std.proofs.Common.{◌<◌, arith, length, refl, sym, ◌∙◌}
use Rattle.std.proofs.lemmas.Option.{slice_get_read}
use Rattle.block_build.proofs.tables.Tables.find.Goals as goal

pub returns-then-are_same : goal.returns-then-are_same
returns-then-are_same c =
    let all = c.args.self.now.all in
    let n = c.loop-number.number in
    let t = c.index.result.now in
    let lt : n < length all.items = omega (arith, c.loop-number-test.true, c.len-number-end.ensures, all.ok.0) in
    (t, slice_get_read all.items (length all.items) n t refl lt c.index.ensures, sym c.deref.ensures.value ∙ c.are_same.ensures c.if-are_same.true)
