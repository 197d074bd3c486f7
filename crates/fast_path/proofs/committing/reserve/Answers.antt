use Rattle.std.proofs.Common.{length, subst, sym, arith}
use Rattle.std.proofs.lemmas.Result.{on_ok_weaker}
use Rattle.net_types.specs.Sets.{Member}
use Rattle.fast_path.specs.Offers.{AreTo}
use Rattle.fast_path.proofs.committing.reserve.Goals as goal

pub reserve_all-requires-clause-known : goal.reserve_all-requires-clause-known
reserve_all-requires-clause-known c = subst (AreTo (length c.args.adverts.now.told)) (sym c.deref-2.ensures.value) c.requires.known

pub returns-clause-tags : goal.returns-clause-tags
returns-clause-tags c =
    on_ok_weaker c.reserve_all.result
    (λ _. λ x m. (let below = c.above_all.ensures x (subst (Member x) (sym c.deref.ensures.value) m) in omega (arith, below, c.in_ok-reserve.ensures.tags)))
    c.reserve_all.ensures.room
