-- The test for UTF-8 tells just what is UTF-8.
use Rattle.std.proofs.Common.{◌≡◌, ℕ, Bool, true, false, List, refl, sym, Result, Ok, Err}
use Rattle.std.specs.Prelude.{IsUtf8, MatchResult}
use Rattle.std.specs.Result.{is_ok}
use Rattle.std.specs.Str.{is_utf8 as library_test}
use Rattle.std.proofs.lemmas.Str.{IsUtf8-from_is_utf8, is_utf8-from_IsUtf8}
use Rattle.events.specs.Lines.{is_utf8}

-- what passes the test is UTF-8
pub passed_is_utf8 : (octets : List ℕ) → is_utf8 octets ≡ true → IsUtf8 octets
unfolding is_utf8 library_test
passed_is_utf8 octets passes = IsUtf8-from_is_utf8 octets passes

-- what is UTF-8 passes the test
pub utf8_passes : (octets : List ℕ) → IsUtf8 octets → is_utf8 octets ≡ true
unfolding is_utf8 library_test
utf8_passes octets is = is_utf8-from_IsUtf8 octets is

false_unless : (b : Bool) → (b ≡ true → ⊥) → false ≡ b
false_unless true none = absurd (none refl)
false_unless false none = refl

-- a result that is good just where the octets are UTF-8
pub told_by : {A E : Type 0} (octets : List ℕ) (r : Result A E) (P : A → Type 0) (Q : E → Type 0)
    → MatchResult r (λ s. P s × IsUtf8 octets) (λ e. ¬ (IsUtf8 octets) × Q e) → is_ok r ≡ is_utf8 octets
told_by octets (Ok s) P Q is = sym (utf8_passes octets is.1)
told_by octets (Err e) P Q is = false_unless (is_utf8 octets) (λ passes. is.0 (passed_is_utf8 octets passes))
