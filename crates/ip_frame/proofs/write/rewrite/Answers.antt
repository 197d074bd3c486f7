use Rattle.std.proofs.Common.{◌≤◌, ◌++◌, length, sym, drop, ap, ◌∙◌, rules}
use Rattle.std.specs.Prelude.{IfSome}
use Rattle.ip_frame.specs.Places.{IsPlaced}
use Rattle.ip_frame.specs.Rewriting.{ports_of, with_checksums, with_fields}
use Rattle.ip_frame.proofs.WrittenLemmas.{rewritten}
use Rattle.ip_frame.proofs.write.rewrite.Goals as goal

pub returns : goal.returns
returns c =
    let frame = c.args.frame.now in
    let to = c.args.to.now in
    let ports = c.of-ports.ensures.value in
    let room : 34 ≤ length frame = search rules in
    let placed : IfSome (ports_of frame to) (λ p. IsPlaced to.proto (length frame) p.at) = rw (sym ports) c.of-ports.ensures.placed in
    let put = c.put_fields.ensures ∙ (ap (with_fields to c.of-ports.result) c.put_checksums.ensures ∙ ap (λ o. with_fields to o (with_checksums to o frame)) ports) in
    let mac = c.copy_from_slice.ensures.after in
    (λ i. mac i ++ drop 6 (put i)) ∙ rewritten frame to c.args.mac room c.of-ports.ensures.octets c.requires placed
