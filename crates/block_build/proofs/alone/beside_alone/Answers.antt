-- Of one rule nothing is left once it is taken.
use Rattle.std.proofs.Common.{◌∙◌}
use Rattle.block_build.proofs.AloneLemmas.{alone_beside}
use Rattle.block_build.proofs.alone.beside_alone.Goals as goal

pub returns : goal.returns
returns c =
    c.in_ok-push.ensures.items
    ∙ alone_beside c.args.results.now c.args.lines.items c.pop.new.self.items c.in-Some.x c.in_ok-joined.field-0 c.requires c.in-Some.ensures.items c.in_ok-joined.ensures
