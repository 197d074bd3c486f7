-- A prefix with the first bits of an address is the prefix of these bits.
use Rattle.std.proofs.Common.{◌≡◌, ℕ, ◌≤◌, IsTrue, sym, subst, ◌∙◌}
use Rattle.net_types.specs.Bits.{same_bits}
use Rattle.net_types.specs.declared.prefix.Prefix.{Prefix}
use Rattle.net_types.proofs.FirstBits.{first_bits_of-len, first_bits_of-bits, one_of_bits}
use Rattle.net_types.specs.PolicyGrammar.{prefix_of}

pub is_prefix_of : (ip len : ℕ) (p : Prefix) → len ≤ 32 → p.len ≡ len → IsTrue (same_bits len p.address.0 ip) → p ≡ prefix_of ip len
is_prefix_of ip len p le e h =
    let same : (prefix_of ip len).len ≡ len = first_bits_of-len len ip le in
    one_of_bits p (prefix_of ip len) ip (e ∙ sym same)
    (subst (λ (m : ℕ). IsTrue (same_bits m p.address.0 ip)) (sym e) h)
    (subst (λ (m : ℕ). IsTrue (same_bits m (prefix_of ip len).address.0 ip)) (sym same) (first_bits_of-bits len ip le))
