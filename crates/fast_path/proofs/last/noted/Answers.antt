-- The rules stand behind the other blocks.
use Rattle.std.proofs.Common.{◌≡◌, true, rules, refl, sym, ◌∙◌}
use Rattle.block_build.specs.Lent.{outbound_at}
use Rattle.block_build.specs.Right.{are_for_any_port}
use Rattle.fast_path.proofs.LastLemmas.{built-next, lasts-more}
use Rattle.fast_path.proofs.last.noted.Goals as goal

pub returns : goal.returns
returns c = λ pair.
    let any : are_for_any_port (outbound_at c.args.views.now c.args.part.now.sender) ≡ true = sym c.sends_from_any_port.ensures ∙ (let told = c.if-not-sends_from_any_port.false in search rules) in record {
      few = built-next c.args.views.now c.args.blocks.now pair c.args.part.now c.in_ok-part.part c.args.block.now c.args.block.now c.requires.whole (c.requires.right any) c.in_ok-part.ensures refl;
      many = (lasts-more c.args.views.now c.args.blocks.now (pair, c.args.block.now) c.args.lasts.now c.requires.last).many;
    }
