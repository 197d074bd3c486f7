-- Both stand in the joined list.
use Rattle.std.proofs.Common.{sym, subst}
use Rattle.net_types.proofs.SetLemmas.{Member-append_left, Member-append_right}
use Rattle.net_types.specs.Sets.{Member}
use Rattle.recompile.proofs.lists.tags_with.Goals as goal

pub returns-clause-used : goal.returns-clause-used
returns-clause-used c = λ t used. subst (Member t) (sym c.in_ok-extend_from_slice.ensures.items) (Member-append_left c.in_ok-tags.tags.items c.args.fresh.now t (c.in_ok-tags.ensures.all t used))

pub returns-clause-fresh : goal.returns-clause-fresh
returns-clause-fresh c = λ t new. subst (Member t) (sym c.in_ok-extend_from_slice.ensures.items) (Member-append_right c.in_ok-tags.tags.items c.args.fresh.now t new)
