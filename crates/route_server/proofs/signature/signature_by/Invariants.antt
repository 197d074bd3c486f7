use Rattle.std.proofs.Common.{◌≡◌, ◌-◌, ◌++◌, length}
use Rattle.route_server.specs.Rows.{settled_by, signature_of}
use Rattle.route_server.proofs.Parts.{parts_from}
use Rattle.route_server.proofs.signature.signature_by.Given as goal

abbrev pub invariant-loop-number : goal.invariant-loop-number
invariant-loop-number l = l.sig ++ parts_from (settled_by l.terms) l.prefix l.row l.number (length l.terms.names.now.participants - l.number) ≡ signature_of (settled_by l.terms) l.prefix l.row
