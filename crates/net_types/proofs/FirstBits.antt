-- The prefix of the first bits of an address: there is one, and no other.
use Rattle.std.proofs.Common.{◌≡◌, ℕ, zero, suc, ◌+◌, ◌-◌, ◌*◌, ◌/◌, ◌%◌, ◌^◌, ◌<◌, ◌≤◌, min, lit<, IsTrue, true, refl, sym, ap, subst, ◌∙◌, arith}
use Rattle.std.proofs.Math.Nat.{mod-lt, mul-div_left}
use Rattle.std.proofs.lemmas.Bool.{and_from, eq-eqb}
use Rattle.std.proofs.lemmas.Nat.{pow_pos}
use Rattle.std.proofs.lemmas.Nat.Bits.{bit_at_cat_low}
use Rattle.std.specs.Int.{bit_at}
use Rattle.net_types.proofs.BitLemmas.{same_bits-quotient}
use Rattle.net_types.proofs.PrefixLemmas.{prefix_from_bits, same_bits_sym, same_bits_trans}
use Rattle.net_types.specs.Bits.{same_bits}
use Rattle.net_types.specs.FirstBits.{cleared_address, cleared_in_range, first_bits_of}
use Rattle.net_types.specs.declared.prefix.Prefix.{Prefix}

pub first_bits_of-len : (n a : ℕ) → n ≤ 32 → (first_bits_of n a).len ≡ n
unfolding first_bits_of
first_bits_of-len n a le = omega arith

-- the bits below 32 are those of the number without the others
low_bit : (a k : ℕ) → k < 32 → bit_at (a % 2 ^ 32) k ≡ bit_at a k
low_bit a k less =
    let whole : a / 2 ^ 32 * 2 ^ 32 + a % 2 ^ 32 ≡ a = omega arith in
    sym (bit_at_cat_low (a / 2 ^ 32) 32 (a % 2 ^ 32) k less) ∙ ap (λ (n : ℕ). bit_at n k) whole

same_low_bits : (n a : ℕ) → n ≤ 32 → same_bits n (a % 2 ^ 32) a ≡ true
unfolding same_bits
same_low_bits zero a le = refl
same_low_bits (suc n) a le = and_from _ _ (eq-eqb _ _ (low_bit a (31 - n) (omega arith))) (same_low_bits n a (omega arith))

pub first_bits_of-bits : (n a : ℕ) → n ≤ 32 → IsTrue (same_bits n (first_bits_of n a).address.0 a)
unfolding first_bits_of
first_bits_of-bits n a le =
    let e : min n 32 ≡ n = omega arith in
    let small : a % 2 ^ 32 < 2 ^ 32 = mod-lt a (lit< tt) in
    let quotient : cleared_address n a / 2 ^ (32 - n) ≡ a % 2 ^ 32 / 2 ^ (32 - n) =
    ap (λ (m : ℕ). a % 2 ^ 32 / 2 ^ (32 - m) * 2 ^ (32 - m) / 2 ^ (32 - n)) e ∙ mul-div_left (a % 2 ^ 32 / 2 ^ (32 - n)) (pow_pos (32 - n)) in
    same_bits_trans n (cleared_address n a) (a % 2 ^ 32) a
    (same_bits-quotient n (cleared_address n a) (a % 2 ^ 32) le (cleared_in_range n a) small ∙ eq-eqb _ _ quotient)
    (same_low_bits n a le)

-- prefixes of one length that have the first bits of one address are one
pub one_of_bits : (p q : Prefix) (a : ℕ) → p.len ≡ q.len → IsTrue (same_bits p.len p.address.0 a) → IsTrue (same_bits q.len q.address.0 a) → p ≡ q
one_of_bits p q a e h k =
    prefix_from_bits p q e (same_bits_trans p.len p.address.0 a q.address.0 h (same_bits_sym p.len q.address.0 a (subst (λ (n : ℕ). same_bits n q.address.0 a ≡ true) (sym e) k)))
