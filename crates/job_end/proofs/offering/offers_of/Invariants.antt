-- with those of the rest they are all
use Rattle.std.proofs.Common.{◌≡◌, ◌-◌, ◌++◌, length, map}
use Rattle.net_types.specs.Routes.{numbers}
use Rattle.net_types.specs.Sets.{union_over}
use Rattle.fast_path.proofs.OfferedPresent.{pid_at}
use Rattle.fast_path.specs.Offers.{declared_pids}
use Rattle.job_end.specs.Offers.{offers_at, offers_of}
use Rattle.job_end.proofs.offering.offers_of.Given as goal

abbrev pub invariant-loop-number : goal.invariant-loop-number
invariant-loop-number l =
    l.offers.items ++ union_over (offers_at l.adverts.present l.moves) (map pid_at (numbers l.number (length l.names.participants - l.number)))
    ≡ offers_of l.adverts.present (declared_pids l.names) l.moves
