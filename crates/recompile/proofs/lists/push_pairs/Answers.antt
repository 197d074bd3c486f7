-- As many as both are.
use Rattle.std.proofs.Common.{◌≡◌, ◌+◌, ap, ◌∙◌, arith}
use Rattle.std.specs.Prelude.{length}
use Rattle.std.proofs.lemmas.List.{length-append}
use Rattle.recompile.proofs.lists.push_pairs.Goals as goal

pub returns-clause-few : goal.returns-clause-few
returns-clause-few c =
    let all : length c.extend_from_slice.new.self.items ≡ length c.args.pairs.now.items + length c.args.added.now = ap length c.in_ok-extend_from_slice.ensures.items ∙ length-append c.args.pairs.now.items c.args.added.now in
    omega (arith, c.if-saturating_add-gt-MOST_PAIRS.false, c.saturating_add.ensures, c.len.ensures, c.args.pairs.now.ok, all)
