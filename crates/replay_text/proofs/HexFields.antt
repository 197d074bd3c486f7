-- Hexadecimal digits, as the library reads and writes them.
use Rattle.std.proofs.Common.{◌≡◌, ◌<◌, get_or, suc, ℕ, ◌+◌, ◌*◌, ◌/◌, ◌%◌, ◌==◌, Bool, true, false, cond, List, [], ◌∷◌, length, slice_index, refl, ap, ◌∙◌, arith, nat_lt, nat_eq, Option, Some, None, Result, Ok, Err}
use Rattle.std.specs.Option.{option_map, option_and_then}
use Rattle.std.specs.Result.{result_ok}
use Rattle.std.proofs.lemmas.Bool.{agree_below_at, eqb-true}
use Rattle.std.proofs.lemmas.Bool.Decides.{nat_tests}
use Rattle.hex.specs.Hex.{encode_lower, encode_with, lower_digits, decode_of, decode_pairs, decode_sized, digit_or_error, hex_digit_value, ◌>>=◌}
use Rattle.hex.specs.declared.error.FromHexError.{FromHexError}
use Rattle.hex.specs.declared.error.FromHexError.TheVariants.{OddLength, InvalidStringLength}
use Rattle.hex.proofs.HexLemmas.{decode_pairs-ok}
use Rattle.events.specs.Lines.{hex_digit, hex_octets, bytes, one_octet, only_if}
use Rattle.events.specs.Text.{hex_text, hex_text_digit}

same_digit : (c : ℕ) → hex_digit c ≡ hex_digit_value c
same_digit c = grind (arith, nat_tests)

-- two digits and the rest, whatever each of them is
two_digits : (o p : Option ℕ) (r : Result (List ℕ) FromHexError) (c d i : ℕ)
    → option_and_then (λ u. option_and_then (λ v. option_map (λ octets. (16 * u + v) ∷ octets) (result_ok r)) p) o
    ≡ result_ok ((digit_or_error c i o >>= (λ h. digit_or_error d (i + 1) p >>= (λ l. Ok (h * 16 + l)))) >>= (λ byte. r >>= (λ more. Ok (byte ∷ more))))
two_digits None p r c d i = refl
two_digits (Some u) None r c d i = refl
two_digits (Some u) (Some v) (Err e) c d i = refl
two_digits (Some u) (Some v) (Ok octets) c d i = let e : 16 * u + v ≡ u * 16 + v = omega arith in ap (λ x. Some (x ∷ octets)) e

abbrev joined : Option ℕ → Option ℕ → Option (List ℕ) → Option (List ℕ)
joined o p r = option_and_then (λ u. option_and_then (λ v. option_map (λ octets. (16 * u + v) ∷ octets) r) p) o

same_octets : (i : ℕ) (s : List ℕ) → hex_octets s ≡ result_ok (decode_pairs i s)
unfolding decode_pairs
same_octets i [] = refl
same_octets i (c ∷ []) = refl
same_octets i (c ∷ d ∷ cs) =
    ap (λ o. joined o (hex_digit d) (hex_octets cs)) (same_digit c)
    ∙ ap (λ p. joined (hex_digit_value c) p (hex_octets cs)) (same_digit d)
    ∙ ap (λ r. joined (hex_digit_value c) (hex_digit_value d) r) (same_octets (i + 2) cs)
    ∙ two_digits (hex_digit_value c) (hex_digit_value d) (decode_pairs (i + 2) cs) c d i

even_if_ok : (s : List ℕ) (r : Result (List ℕ) FromHexError) → decode_pairs 0 s ≡ r → length s % 2 ≡ 1 → result_ok r ≡ None
even_if_ok s (Err e) is odd = refl
even_if_ok s (Ok octets) is odd = let len = (decode_pairs-ok 0 s octets is).1 in absurd (omega (arith, len))

parity : (s : List ℕ) (b : Bool) → (length s % 2 == 1) ≡ b → hex_octets s ≡ result_ok (cond b (Err OddLength) (decode_pairs 0 s))
parity s true e = same_octets 0 s ∙ even_if_ok s (decode_pairs 0 s) refl (search (arith, nat_tests))
parity s false e = same_octets 0 s

-- the octets that digits stand for
pub hex_octets-decode : (s : List ℕ) → hex_octets s ≡ result_ok (decode_of s)
hex_octets-decode s = parity s (length s % 2 == 1) refl

pub bytes-decode : (s : List ℕ) → bytes s ≡ only_if (λ octets. nat_lt 0 (length octets)) (result_ok (decode_of s))
bytes-decode s = ap (only_if (λ octets. nat_lt 0 (length octets))) (hex_octets-decode s)

abbrev pub first_of : Option (List ℕ) → Option ℕ
first_of o = option_map (λ octets. slice_index octets 0) o

abbrev one_of : Option (List ℕ) → Option ℕ
one_of o = first_of (only_if (λ octets. nat_eq (length octets) 1) o)

sized_by : (s : List ℕ) (r : Result (List ℕ) FromHexError) → decode_pairs 0 s ≡ r
    → one_of (result_ok r) ≡ first_of (result_ok (cond (length s % 2 == 1) (Err OddLength) (cond (length s / 2 == 1) r (Err InvalidStringLength))))
sized_by s (Err e) is = grind (arith, nat_tests)
sized_by s (Ok octets) is = let len = (decode_pairs-ok 0 s octets is).1 in grind (arith, nat_tests)

pub one_octet-decode : (s : List ℕ) → one_octet s ≡ first_of (result_ok (decode_sized s 1))
one_octet-decode s = ap one_of (same_octets 0 s) ∙ sized_by s (decode_pairs 0 s) refl

-- ---- digits that are written

abbrev is_written : ℕ → Bool
is_written n = slice_index lower_digits n == hex_text_digit n

written_digit : (n : ℕ) → n < 16 → slice_index lower_digits n ≡ hex_text_digit n
written_digit n less = eqb-true _ _ (agree_below_at is_written (λ _. true) 16 n refl less)

-- The text of octets in digits of lower case.
pub hex_text-encode : (s : List ℕ) → ((k : ℕ) → get_or s k 0 < 256) → encode_lower s ≡ hex_text s
unfolding encode_with
hex_text-encode [] small = refl
hex_text-encode (b ∷ bs) small =
    let high : slice_index lower_digits (b / 16) ≡ hex_text_digit (b / 16) = written_digit (b / 16) (let h = small 0 in omega (arith, h)) in
    let low : slice_index lower_digits (b % 16) ≡ hex_text_digit (b % 16) = written_digit (b % 16) (omega arith) in
    let others = hex_text-encode bs (λ k. small (suc k)) in
    rw (high, low, others) refl
