-- Decimal numbers, digit by digit.
use Rattle.std.proofs.Common.{◌≡◌, ℕ, ◌+◌, ◌-◌, ◌*◌, ◌<◌, Bool, true, false, cond, List, [], ◌∷◌, length, get_or, drop, refl, ap, ◌∙◌, arith, nat_le, Option, None}
use Rattle.std.proofs.lemmas.Bool.{cond-true, cond-false}
use Rattle.std.proofs.lemmas.Bool.Decides.{nat_tests}
use Rattle.std.proofs.lemmas.List.{drop_more}
use Rattle.grammar.specs.Tokens.{is_digit}
use Rattle.events.specs.Lines.{number_from, only_if}

-- one digit more
pub number_more : (n : ℕ) (xs : List ℕ) (i : ℕ) → i < length xs → is_digit (get_or xs i 0) ≡ true → number_from n (drop i xs) ≡ number_from (10 * n + (get_or xs i 0 - 48)) (drop (i + 1) xs)
number_more n xs i inside digit = ap (number_from n) (drop_more xs i 0 inside) ∙ cond-true _ _ _ digit

-- an octet that is no digit
pub number_none : (n : ℕ) (xs : List ℕ) (i : ℕ) → i < length xs → is_digit (get_or xs i 0) ≡ false → number_from n (drop i xs) ≡ None
number_none n xs i inside other = ap (number_from n) (drop_more xs i 0 inside) ∙ cond-false _ _ _ other

abbrev up_to : ℕ → Option ℕ → Option ℕ
up_to high o = only_if (λ n. nat_le n high) o

above_by : (high : ℕ) (b : Bool) (o : Option ℕ) → up_to high o ≡ None → up_to high (cond b o None) ≡ None
above_by high true o e = e
above_by high false o e = refl

-- a number that is too great stays so
pub number_above : (high n : ℕ) (xs : List ℕ) → high < n → only_if (λ m. nat_le m high) (number_from n xs) ≡ None
number_above high n [] above = grind (arith, nat_tests)
number_above high n (x ∷ xs) above = above_by high (is_digit x) (number_from (10 * n + (x - 48)) xs) (number_above high (10 * n + (x - 48)) xs (omega arith))
