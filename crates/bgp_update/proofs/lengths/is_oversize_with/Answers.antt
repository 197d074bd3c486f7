-- Each prefix is told by the lengths alone.
use Rattle.std.proofs.Common.{◌≡◌, ◌+◌, ℕ, Bool, length, min, ap, ◌∙◌}
use Rattle.std.specs.List.{list_any}
use Rattle.net_types.specs.Updates.{attrs_octets}
use Rattle.net_types.specs.declared.prefix.Prefix.{Prefix}
use Rattle.bgp_update.proofs.LengthSums.{exceeds}
use Rattle.bgp_update.proofs.lengths.is_oversize_with.Goals as goal

pub returns : goal.returns
returns c =
    let front : c.add.result ≡ min 65535 (23 + min 65535 (length (attrs_octets c.args.attrs.now))) = c.add.ensures ∙ ap (λ (n : ℕ). min 65535 (23 + n)) c.attrs_len.ensures in
    c.some_exceeds.ensures ∙ ap (λ (f : Prefix → Bool). list_any f c.args.announced.now) (λ i p. exceeds p c.args.attrs.now c.add.result front i)
