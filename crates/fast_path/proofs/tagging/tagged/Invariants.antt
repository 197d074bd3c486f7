-- with those of the rest they are all
use Rattle.std.proofs.Common.{◌≡◌, ◌++◌, drop}
use Rattle.fast_path.specs.Offers.{tagged}
use Rattle.fast_path.proofs.tagging.tagged.Given as goal

abbrev pub invariant-loop-at : goal.invariant-loop-at
invariant-loop-at l = l.all ++ tagged l.known l.groups l.tags (drop l.at l.proposal.touched) (drop l.at l.proposal.sigs) ≡ tagged l.known l.groups l.tags l.proposal.touched l.proposal.sigs
