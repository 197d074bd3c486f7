use Rattle.std.proofs.Common.{◌≡◌, [], drop}
use Rattle.fast_path.specs.Grouping.{groups_of, more_groups, moved_groups}
use Rattle.fast_path.proofs.grouping.groups_for.Given as goal

abbrev pub invariant-loop-at : goal.invariant-loop-at
invariant-loop-at l = more_groups (groups_of l.groups) (moved_groups l.known (drop l.at l.proposal.touched) (drop l.at l.proposal.sigs)) ≡ more_groups [] (moved_groups l.known l.proposal.touched l.proposal.sigs)
