-- The cells of the block so far.
use Rattle.std.proofs.Common.{◌≡◌, ◌<◌, ◌≤◌, ℕ, true}
use Rattle.cells.specs.Listed.{ListsOnly, ListsThese, is_listed}
use Rattle.cells.proofs.listed.push_block.Given as goal

abbrev pub invariant-loop-place : goal.invariant-loop-place
invariant-loop-place l = ListsThese l.cells l.cube (λ p. (l.start ≤ p) × (p < l.place)) l.places.items × ListsOnly l.cells l.cube l.places.items × ((p : ℕ) → is_listed l.fn.places.items p ≡ true → is_listed l.places.items p ≡ true)
