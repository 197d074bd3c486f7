-- A tight form of rules that aren't tight is put in.
use Rattle.std.proofs.Common.{inr, subst}
use Rattle.std.specs.Prelude.{unwrap_or}
use Rattle.block_build.specs.Tight.{IsTightForm}
use Rattle.recompile.proofs.BuiltLemmas.{put_is}
use Rattle.recompile.proofs.swap.Built.build.Goals as goal

pub returns-clause-built : goal.returns-clause-built
returns-clause-built g c = inr (c.in-Some.block, subst (λ o. IsTightForm c.args.old.now (unwrap_or o c.args.old.now)) c.in-Some.is c.in_ok-block.ensures.tight, put_is c.self.inside.pairs.items c.self.invariant c.args.self.now c.self.view_is c.args.pair c.in-Some.block c.insert.new.self.items c.in_ok-insert.ensures.items)
