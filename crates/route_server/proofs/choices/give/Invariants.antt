use Rattle.std.proofs.Common.{take}
use Rattle.route_server.specs.Choices.{AreAt}
use Rattle.route_server.specs.Rows.{settled_by, offered}
use Rattle.route_server.proofs.choices.give.Given as goal

abbrev pub invariant-loop-place : goal.invariant-loop-place
invariant-loop-place l = AreAt (settled_by l.terms) l.row l.given.items (offered (settled_by l.terms) l.to l.prefix (take l.place l.row))
