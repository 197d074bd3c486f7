-- Which line a number gives, and the prefix of a network.
use Rattle.std.proofs.Common.{◌≡◌, ℕ, ◌+◌, ◌-◌, ◌*◌, ◌<◌, false, cond, nat_le, codes, sym, ap, ◌∙◌, arith}
use Rattle.std.proofs.lemmas.Bool.Decides.{nat_tests}
use Rattle.net_types.proofs.PrefixLemmas.{prefix_ext}
use Rattle.net_types.specs.FirstBits.{cleared_address, first_bits_of}
use Rattle.net_types.specs.declared.prefix.Prefix.{Prefix}
use Rattle.load_gen.specs.Drawing.{drawn}
use Rattle.load_gen.specs.Generated.{drawn_line, generated, network_prefix, participant_line, port_line}

pub generated_later : (seed i : ℕ) → 16 < i → generated seed i ≡ drawn_line (drawn seed i)
generated_later seed i high =
    let first : nat_le i 0 ≡ false = grind (arith, nat_tests) in
    let second : nat_le i 8 ≡ false = grind (arith, nat_tests) in
    let third : nat_le i 16 ≡ false = grind (arith, nat_tests) in
    ap (λ b. cond b (codes "exchange 172.16.0.0 4096 100000") (cond (nat_le i 8) (participant_line i) (cond (nat_le i 16) (port_line (i - 8)) (drawn_line (drawn seed i))))) first
    ∙ ap (λ b. cond b (participant_line i) (cond (nat_le i 16) (port_line (i - 8)) (drawn_line (drawn seed i)))) second
    ∙ ap (λ b. cond b (port_line (i - 8)) (drawn_line (drawn seed i))) third

pub generated_first : (seed i : ℕ) → i ≡ 0 → generated 0 0 ≡ generated seed i
generated_first seed i e = sym (ap (generated seed) e)

cleared : (q : ℕ) → q < 256 → cleared_address 16 (167772160 + 65536 * q) ≡ 167772160 + 65536 * q
cleared q low = omega arith

pub network_is : (q : ℕ) (p : Prefix) → q < 256 → p.address.0 ≡ 167772160 + 65536 * q → p.len ≡ 16 → p ≡ network_prefix q
unfolding first_bits_of
network_is q p low address len = prefix_ext p (network_prefix q) (address ∙ sym (cleared q low)) len
