-- Where one goes from the locations so far.
use Rattle.std.proofs.Common.{map, take}
use Rattle.net_types.specs.Headers.{arrived}
use Rattle.net_types.specs.Sets.{SameMembers}
use Rattle.place_sets.specs.Places.{has_place}
use Rattle.policy_compile.specs.Groups.{picked}
use Rattle.policy_compile.proofs.ways.moved.Given as goal

abbrev pub invariant-loop-place : goal.invariant-loop-place
invariant-loop-place l = SameMembers (picked l.locations (has_place l.next)) (map (λ x. arrived x l.loc) (picked (take l.place l.locations) (has_place l.ways)))
