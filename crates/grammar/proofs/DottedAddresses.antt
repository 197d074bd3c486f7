-- Addresses are read exactly.
use Rattle.std.proofs.Common.{ℕ, ◌+◌, ◌*◌, Bool, [], refl, arith}
use Rattle.std.specs.Prelude.{codes}
use Rattle.grammar.specs.TextReading as reading
use Rattle.grammar.specs.Octets.{among}
use Rattle.grammar.specs.Rules.{word}
use Rattle.grammar.specs.Tokens.{address, is_digit, number}
use Rattle.grammar.specs.TokenReading.{read_address, read_number}
use Rattle.grammar.specs.TextReading.{Reader, read_word}
use Rattle.grammar.specs.Exactness.{Family, IsExact}
use Rattle.grammar.proofs.OctetKinds.{Apart, among_apart, flip}
use Rattle.grammar.proofs.Firsts.{Heads, Heads-leads, word_heads}
use Rattle.grammar.proofs.Exact.{both, both_exact, both_heads}
use Rattle.grammar.proofs.Nothing.{map_exact}
use Rattle.grammar.proofs.Words.{word_then}
use Rattle.grammar.proofs.Numbers.{number_exact, number_heads}

abbrev is_dot : ℕ → Bool
is_dot = among (codes ".")

dot_apart : Apart is_digit is_dot
dot_apart = flip is_dot is_digit (among_apart (codes ".") is_digit refl)

module _ (d : ℕ) where
  octet_exact : (follow : ℕ → Bool) → Apart is_digit follow → IsExact (λ e. number 0 255) d follow (read_number 0 255)
  octet_exact follow apart = number_exact 0 255 (omega arith) (omega arith) d follow apart

  -- a number, a dot and more
  octet_then : {X : Type 0} (g : ℕ → Family X) (follow : ℕ → Bool) (rg : ℕ → Reader X) → ((x : ℕ) → IsExact (g x) d follow (rg x))
      → IsExact (both (λ e. number 0 255) (λ x. both (λ e. word (codes ".")) (λ _. g x))) d follow (reading.◌>>=◌ (read_number 0 255) (λ x. reading.◌>>◌ (read_word (codes ".")) (rg x)))
  octet_then g follow rg exact =
      both_exact (λ e. number 0 255) (λ x. both (λ e. word (codes ".")) (λ _. g x)) d is_dot follow
      (λ x. Heads-leads (both (λ e. word (codes ".")) (λ _. g x)) is_dot follow is_dot (λ c h. h) (both_heads (λ e. word (codes ".")) (λ _. g x) is_dot (word_heads 46 [] is_dot refl)))
      (read_number 0 255) (λ x. reading.◌>>◌ (read_word (codes ".")) (rg x)) (octet_exact is_dot dot_apart)
      (λ x. word_then (codes ".") (g x) d follow (rg x) (exact x))

  -- Behind an address anything but a digit may stand.
  pub address_exact : (follow : ℕ → Bool) → Apart is_digit follow → IsExact (λ e. address) d follow read_address
  unfolding read_address
  address_exact follow apart =
      octet_then _ follow _ (λ a. octet_then _ follow _ (λ b. octet_then _ follow _ (λ c.
      map_exact (λ e. number 0 255) (λ x. ((a * 256 + b) * 256 + c) * 256 + x) d follow (read_number 0 255) (octet_exact follow apart))))

pub address_heads : Heads (λ e. address) is_digit
address_heads = both_heads _ _ is_digit (number_heads 0 255 (omega arith) (omega arith))
