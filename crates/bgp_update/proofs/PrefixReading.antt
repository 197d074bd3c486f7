-- A prefix is read exactly, and one that has the bits that stand there is the one that is read.
use Rattle.std.proofs.Common.{◌≡◌, ℕ, ◌+◌, ◌/◌, ◌<◌, ◌≤◌, List, [], ◌++◌, Ok, Err, leb, IsTrue, refl, sym, ap, ◌∙◌, subst, arith}
use Rattle.std.proofs.lemmas.Bool.{cond_both, le-leb, leb-false, leb-true}
use Rattle.grammar.specs.FormatReading.{Read, read_octet, read_octets}
use Rattle.grammar.specs.Messages.{Holds, IsExact}
use Rattle.grammar.proofs.FormatExact.{octet_exact, octets_exact, then_exact}
use Rattle.net_types.proofs.FirstBits.{first_bits_of-bits, first_bits_of-len, one_of_bits}
use Rattle.net_types.specs.FirstBits.{first_bits_of}
use Rattle.net_types.specs.Bits.{same_bits}
use Rattle.net_types.specs.UpdateFormat.{first_bits, padded, prefix}
use Rattle.net_types.specs.declared.prefix.Prefix.{Prefix}
use Rattle.net_types.specs.declared.update.Fault.{Fault}
use Rattle.net_types.specs.declared.update.Fault.TheVariants.{Network}
use Rattle.net_types.specs.UpdateReading.{read_first_bits, read_prefix}

-- a prefix of n bits that has those of the address is the first bits
pub is_first_bits : (n a : ℕ) (p : Prefix) → n ≤ 32 → p.len ≡ n → IsTrue (same_bits n p.address.0 a) → p ≡ first_bits_of n a
is_first_bits n a p le e h =
    let len : (first_bits_of n a).len ≡ n = first_bits_of-len n a le in
    one_of_bits p (first_bits_of n a) a (e ∙ sym len)
    (subst (λ (m : ℕ). IsTrue (same_bits m p.address.0 a)) (sym e) h)
    (subst (λ (m : ℕ). IsTrue (same_bits m (first_bits_of n a).address.0 a)) (sym len) (first_bits_of-bits n a le))

first_bits_hold : (n a : ℕ) (s : List ℕ) → Holds (first_bits n a) s (read_first_bits n a s)
first_bits_hold n a s =
    cond_both (leb n 32) (Ok (first_bits_of n a, s)) (Err Network) (λ (r : Read Fault Prefix). Holds (first_bits n a) s r)
    (λ t. let le : n ≤ 32 = leb-true n 32 t in record {
      front = [];
      parts = refl;
      spells = (refl, first_bits_of-len n a le, first_bits_of-bits n a le);
      only = λ x y p e sp. (sp.0, sym (ap (λ (u : List ℕ). u ++ y) sp.0) ∙ sym e, is_first_bits n a p le sp.1 sp.2);
      sound = λ e h. omega (arith, le, h.0);
    })
    (λ t. let more : 32 < n = leb-false n 32 t in record {
      fails = (more, refl);
      first = λ e h. h.1;
      none = λ x y p e sp. omega (arith, more, p.short, sp.1);
    })

pub prefix_exact : IsExact prefix read_prefix
unfolding read_prefix
prefix_exact = then_exact _ _ _ _ (octet_exact _) (λ len. then_exact _ _ _ _ (octets_exact _ _) (λ bits. record { reads = λ s. first_bits_hold len (padded bits) s }))

-- what the code reads of a prefix
pub prefix_read : (s m left bits : List ℕ) (len : ℕ) (p : Prefix) → read_octet Network s ≡ Ok (len, m) → read_octets ((len + 7) / 8) Network m ≡ Ok (bits, left)
    → len ≤ 32 → p.len ≡ len → IsTrue (same_bits len p.address.0 (padded bits)) → read_prefix s ≡ Ok (p, left)
unfolding read_prefix
prefix_read s m left bits len p one two le e h =
    rw (one, two, le-leb len 32 le) (ap (λ (q : Prefix). Ok (q, left)) (sym (is_first_bits len (padded bits) p le e h)))
