-- The list has as many as the pairs.
use Rattle.std.proofs.Common.{◌≤◌, ap, arith}
use Rattle.std.specs.Prelude.{length}
use Rattle.recompile.proofs.lists.listed.Goals as goal

pub returns : goal.returns
returns c =
    let few : c.len.result ≤ 562949953421312 = c.if-len-gt-MOST_PAIRS.false in
    (c.into_vec.ensures, omega (arith, c.len.ensures, ap length c.into_vec.ensures, few))
