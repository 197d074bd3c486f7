-- The places from this one on are still to be changed.
use Rattle.std.proofs.Common.{◌≡◌, length, map}
use Rattle.std.specs.Option.{option_map}
use Rattle.tag_table.proofs.PlaceLemmas.{changed_after}
use Rattle.tag_table.proofs.places.change_all.Given as goal

abbrev pub invariant-loop-place : goal.invariant-loop-place
invariant-loop-place g l = (changed_after (g.C.Change.changed l.change) l.place l.places.items ≡ map (option_map (g.C.Change.changed l.change)) l.fn.places.items) × (length l.places.items ≡ length l.fn.places.items)
