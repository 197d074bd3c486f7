-- The blocks so far.
use Rattle.std.proofs.Common.{◌≡◌, ◌<◌, ◌/◌, true}
use Rattle.place_sets.specs.Places.{has_place}
use Rattle.cells.specs.Listed.{ListsOnly, ListsThese}
use Rattle.cells.proofs.listed.listed_in.Given as goal

abbrev pub invariant-loop-block : goal.invariant-loop-block
invariant-loop-block l = ListsThese l.cells l.cube (λ p. (p / 64 < l.block) × (has_place l.blocks (p / 64) ≡ true)) l.places.items × ListsOnly l.cells l.cube l.places.items
