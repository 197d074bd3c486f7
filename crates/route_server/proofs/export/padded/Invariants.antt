use Rattle.std.proofs.Common.{◌≡◌, ◌++◌, ◌-◌}
use Rattle.route_server.specs.Rows.{nothings, padded}
use Rattle.route_server.proofs.export.padded.Given as goal

abbrev pub invariant-loop-place : goal.invariant-loop-place
invariant-loop-place l = l.after.items ++ nothings (l.count - l.place) ≡ padded l.rules l.count

abbrev pub decreases-loop-place : goal.decreases-loop-place
decreases-loop-place l = l.count - l.place
