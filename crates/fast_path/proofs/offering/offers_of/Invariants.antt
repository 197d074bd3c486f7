-- with those of the rest they are all
use Rattle.std.proofs.Common.{◌≡◌, ◌-◌, ◌++◌, length, map}
use Rattle.net_types.specs.Routes.{numbers}
use Rattle.net_types.specs.Sets.{union_over}
use Rattle.fast_path.specs.Offers.{adverts_of, adverts_to, declared_pids}
use Rattle.fast_path.proofs.OfferedPresent.{pid_at}
use Rattle.fast_path.proofs.offering.offers_of.Given as goal

abbrev pub invariant-loop-number : goal.invariant-loop-number
invariant-loop-number l =
    l.offers.items ++ union_over (λ who. adverts_to l.proposal who 0 l.tagged) (map pid_at (numbers l.number (length l.names.participants - l.number)))
    ≡ adverts_of l.proposal (declared_pids l.names) l.tagged
