-- with those of the rest they are all
use Rattle.std.proofs.Common.{◌≡◌, ◌++◌, drop}
use Rattle.fast_path.specs.Offers.{adverts_to}
use Rattle.fast_path.proofs.offering.offer_each.Given as goal

abbrev pub invariant-loop-at : goal.invariant-loop-at
invariant-loop-at l = l.offers.items ++ adverts_to l.proposal l.who l.at (drop l.at l.tagged) ≡ l.initial.offers.items ++ adverts_to l.proposal l.who 0 l.tagged
