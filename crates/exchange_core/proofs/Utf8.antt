-- A text that passes the test is UTF-8.
use Rattle.std.proofs.Common.{◌≡◌, ℕ, true, List}
use Rattle.std.specs.Prelude.{IsUtf8}
use Rattle.std.specs.Str.{is_utf8 as library_test}
use Rattle.std.proofs.lemmas.Str.{IsUtf8-from_is_utf8}
use Rattle.events.specs.Lines.{is_utf8}

pub passed_is_utf8 : (octets : List ℕ) → is_utf8 octets ≡ true → IsUtf8 octets
unfolding is_utf8 library_test
passed_is_utf8 octets passes = IsUtf8-from_is_utf8 octets passes
