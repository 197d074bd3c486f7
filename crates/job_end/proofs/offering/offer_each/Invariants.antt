-- with those of the rest they are all
use Rattle.std.proofs.Common.{◌≡◌, ◌++◌, drop}
use Rattle.net_types.specs.Sets.{union_over}
use Rattle.job_end.specs.Offers.{offers_to}
use Rattle.job_end.proofs.offering.offer_each.Given as goal

abbrev pub invariant-loop-moved : goal.invariant-loop-moved
invariant-loop-moved l =
    l.offers.items ++ union_over (offers_to l.adverts.present l.who) (drop l.moved-index l.moves) ≡ l.initial.offers.items ++ union_over (offers_to l.adverts.present l.who) l.moves
