use Rattle.std.proofs.Common.{◌≡◌, map, take}
use Rattle.route_server.specs.declared.held.Held.{Held}
use Rattle.route_server.proofs.announced.put_participants.Given as goal

abbrev pub invariant-loop-place : goal.invariant-loop-place
invariant-loop-place l = take l.place l.pids ≡ map (λ (h : Held). h.from) (take l.place l.row)
