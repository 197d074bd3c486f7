-- The places so far are those of the cubes that lie within.
use Rattle.policy_compile.specs.Columns.{IsWithinBefore}
use Rattle.policy_compile.proofs.outcomes.places_within.Given as goal

abbrev pub invariant-loop-place : goal.invariant-loop-place
invariant-loop-place l = IsWithinBefore l.cubes l.outer l.places l.place
