use Rattle.std.proofs.Common.{◌≡◌, ◌≤◌, ◌-◌, drop, length}
use Rattle.std.specs.Cmp.Lexicographic.{pointwise}
use Rattle.net_types.specs.Attributes.{same_part, same_signature}
use Rattle.route_server.specs.Rows.{settled_by, signature_of}
use Rattle.route_server.proofs.Parts.{parts_from}
use Rattle.route_server.proofs.compared.is_signature.Given as goal

abbrev pub invariant-loop-number : goal.invariant-loop-number
invariant-loop-number l = record {
  fewer : l.next ≤ l.number;
  left : pointwise same_part (drop l.next l.parts) (parts_from (settled_by l.terms) l.prefix l.row l.number (length l.terms.names.now.participants - l.number)) ≡ same_signature l.parts (signature_of (settled_by l.terms) l.prefix l.row);
}
