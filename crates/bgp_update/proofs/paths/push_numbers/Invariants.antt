-- The ones so far are behind.
use Rattle.std.proofs.Common.{◌≡◌, ◌++◌, take}
use Rattle.bgp_update.proofs.paths.push_numbers.Given as goal

abbrev pub invariant-loop-number : goal.invariant-loop-number
invariant-loop-number l = l.out ≡ l.fn.out ++ take l.number-index l.numbers
