-- Names and numbers of lines are the tokens.
use Rattle.std.proofs.Common.{◌≡◌, ℕ, ◌+◌, ◌*◌, ◌-◌, ◌≤◌, Bool, true, false, ◌&&◌, cond, nat_le, nat_eq, List, [], ◌∷◌, length, Some, None, Option, refl, sym, ap, ◌∙◌, subst, arith, inl, inr}
use Rattle.std.specs.List.{list_all}
use Rattle.std.proofs.lemmas.Bool.{and_parts, both_ways, cases_Bool, eqb-true}
use Rattle.std.proofs.lemmas.Bool.Decides.{nat_tests}
use Rattle.grammar.specs.Octets.{AllPass}
use Rattle.grammar.specs.Tokens.{is_digit, is_letter, is_name_octet, IsName, IsNumber}
use Rattle.grammar.specs.Tokens as tokens
use Rattle.events.specs.Lines as lines
use Rattle.events.specs.Lines.{only_if}

-- ---- octets of a kind

pub all_passed : (test : ℕ → Bool) (s : List ℕ) → list_all test s ≡ true → AllPass test s
all_passed test [] h = tt
all_passed test (c ∷ s) h = let p = and_parts (test c) (list_all test s) h in (p.0, all_passed test s p.1)

pub passed_all : (test : ℕ → Bool) (s : List ℕ) → AllPass test s → list_all test s ≡ true
passed_all test [] h = refl
passed_all test (c ∷ s) h = rw h.0 (passed_all test s h.1)

-- ---- names

is_some_name : (text who : List ℕ) (b : Bool) → lines.is_name text ≡ b → cond b (Some text) None ≡ Some who → (lines.is_name text ≡ true) × (who ≡ text)
is_some_name text who true is e = (is, cc)
is_some_name text who false is e = absurd cc

named : (text : List ℕ) → lines.is_name text ≡ true → IsName text
named [] h = absurd cc
named (c ∷ s) h =
    let p = and_parts (is_letter c && nat_le (length s) 15) (list_all is_name_octet s) h in
    let q = and_parts (is_letter c) (nat_le (length s) 15) p.0 in
    (q.0, all_passed is_name_octet s p.1, grind (arith, nat_tests, q.1))

a_name : (text : List ℕ) → IsName text → lines.is_name text ≡ true
a_name [] h = absurd h
a_name (c ∷ s) h =
    let short : nat_le (length s) 15 ≡ true = grind (arith, nat_tests, h.2) in
    rw (h.0, short) (passed_all is_name_octet s h.1)

pub name_token : (text who : List ℕ) → lines.name text ≡ Some who → tokens.name.Spells 0 text who
name_token text who e = let p = is_some_name text who (lines.is_name text) refl e in (named text p.0, p.1)

pub token_name : (text who : List ℕ) → tokens.name.Spells 0 text who → lines.name text ≡ Some who
token_name text who sp = rw (a_name text sp.0) (ap Some (sym sp.1))

-- ---- numbers

pub from_is : (v : ℕ) (s : List ℕ) → AllPass is_digit s → lines.number_from v s ≡ Some (tokens.number_from v s)
from_is v [] h = refl
from_is v (c ∷ s) h = let turned : 10 * v + (c - 48) ≡ v * 10 + (c - 48) = omega arith in rw h.0 (ap (λ n. lines.number_from n s) turned ∙ from_is (v * 10 + (c - 48)) s h.1)

from_case : (c v n : ℕ) (s : List ℕ) (b : Bool) → is_digit c ≡ b → ((w : ℕ) → lines.number_from w s ≡ Some n → AllPass is_digit s) → cond b (lines.number_from (10 * v + (c - 48)) s) None ≡ Some n → (is_digit c ≡ true) × AllPass is_digit s
from_case c v n s true is later e = (is, later (10 * v + (c - 48)) e)
from_case c v n s false is later e = absurd cc

pub from_digits : (s : List ℕ) (n v : ℕ) → lines.number_from v s ≡ Some n → AllPass is_digit s
from_digits [] n v e = tt
from_digits (c ∷ s) n v e = from_case c v n s (is_digit c) refl (λ w. from_digits s n w) e

only_case : {X : Type 0} (test : X → Bool) (y x : X) (b : Bool) → test y ≡ b → cond b (Some y) None ≡ Some x → (y ≡ x) × (test x ≡ true)
only_case test y x true is e = let same : y ≡ x = cc in (same, ap test (sym same) ∙ is)
only_case test y x false is e = absurd cc

-- what passes a test is what there was
pub only_passed : {X : Type 0} (test : X → Bool) (o : Option X) (x : X) → only_if test o ≡ Some x → (o ≡ Some x) × (test x ≡ true)
only_passed test None x e = absurd cc
only_passed test (Some y) x e = let p = only_case test y x (test y) refl e in (ap Some p.0, p.1)

pub passes : {X : Type 0} (test : X → Bool) (x : X) → test x ≡ true → only_if test (Some x) ≡ Some x
passes test x is = rw is refl

-- digits without a leading zero, and their number
pub record IsDecimal (c : ℕ) (s : List ℕ) (n : ℕ) : Type 0 where
  pub digits : AllPass is_digit (c ∷ s)
  pub first : c ≡ 48 → s ≡ []
  pub value : n ≡ tokens.number_of (c ∷ s)

from_decimal : (c : ℕ) (s : List ℕ) (n : ℕ) → (c ≡ 48 → s ≡ []) → lines.number_from 0 (c ∷ s) ≡ Some n → IsDecimal c s n
from_decimal c s n first e =
    let all = from_digits (c ∷ s) n 0 e in
    let is : Some n ≡ Some (tokens.number_of (c ∷ s)) = sym e ∙ from_is 0 (c ∷ s) all in record { digits = all; first = first; value = cc }

zero_case : (c d : ℕ) (s : List ℕ) (n : ℕ) (b : Bool) → nat_eq c 48 ≡ b → cond b None (lines.number_from 0 (c ∷ d ∷ s)) ≡ Some n → IsDecimal c (d ∷ s) n
zero_case c d s n true is e = absurd cc
zero_case c d s n false is e = from_decimal c (d ∷ s) n (λ z. absurd (both_ways (nat_eq c 48) is (ap (λ k. nat_eq k 48) z))) e

pub decimal_of : (c : ℕ) (s : List ℕ) (n : ℕ) → lines.number (c ∷ s) ≡ Some n → IsDecimal c s n
decimal_of c [] n e = from_decimal c [] n (λ z. refl) e
decimal_of c (d ∷ s) n e = zero_case c d s n (nat_eq c 48) refl e

pub number_token : (low high : ℕ) (text : List ℕ) (n at : ℕ) → lines.number_within low high text ≡ Some n → (tokens.number low high).Spells at text n
number_token low high [] n at e = absurd cc
number_token low high (c ∷ s) n at e =
    let p = only_passed (λ m. nat_le low m && nat_le m high) (lines.number (c ∷ s)) n e in
    let d = decimal_of c s n p.0 in
    let within = and_parts (nat_le low n) (nat_le n high) p.1 in
    let least : low ≤ n = grind (arith, nat_tests, within.0) in
    let most : n ≤ high = grind (arith, nat_tests, within.1) in
    ((d.digits.0, d.digits.1, d.first, subst (λ m. low ≤ m) d.value least, subst (λ m. m ≤ high) d.value most), d.value)

not_zero : (c d : ℕ) (s : List ℕ) → (c ≡ 48 → d ∷ s ≡ []) → nat_eq c 48 ≡ false
not_zero c d s first = elim (cases_Bool (nat_eq c 48)) [ inl is ↦ let none = first (eqb-true c 48 is) in absurd cc | inr not ↦ not ]

number_is : (low high c : ℕ) (s : List ℕ) → IsNumber low high (c ∷ s) → lines.number (c ∷ s) ≡ Some (tokens.number_of (c ∷ s))
number_is low high c [] h = from_is 0 (c ∷ []) (h.0, h.1)
number_is low high c (d ∷ s) h = rw (not_zero c d s h.2) (from_is 0 (c ∷ d ∷ s) (h.0, h.1))

pub token_number : (low high : ℕ) (text : List ℕ) (n at : ℕ) → (tokens.number low high).Spells at text n → lines.number_within low high text ≡ Some n
token_number low high [] n at sp = absurd sp.0
token_number low high (c ∷ s) n at sp =
    let m = tokens.number_of (c ∷ s) in
    let within : (nat_le low m && nat_le m high) ≡ true = grind (arith, nat_tests, sp.0.3, sp.0.4) in
    ap (only_if (λ k. nat_le low k && nat_le k high)) (number_is low high c s sp.0) ∙ passes (λ k. nat_le low k && nat_le k high) m within ∙ ap Some (sym sp.1)
