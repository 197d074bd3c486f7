-- What code that walks along a token comes to: a word octet by octet, a name as a slice, a sign by a table.
use Rattle.std.proofs.Common.{◌≡◌, ℕ, suc, ◌+◌, ◌-◌, ◌≤◌, ◌<◌, Bool, true, List, [], ◌∷◌, length, take, drop, Err, refl, sym, ap, subst, ◌∙◌, arith, inl, inr, eqb, leb, get_or, drop-cons}
use Rattle.std.specs.Prelude.{◌⊎◌, ◌&&◌, ◌||◌}
use Rattle.std.specs.List.{list_any}
use Rattle.std.specs.Str.{IsUtf8, IsAscii}
use Rattle.std.proofs.lemmas.Str.{IsUtf8-from_ascii}
use Rattle.std.proofs.lemmas.Str.Ascii.{IsAscii-nil, IsAscii-cons}
use Rattle.std.proofs.lemmas.List.{take_all}
use Rattle.std.proofs.lemmas.Bool.{eqb-true, and_parts, or_cases, leb-true}
use Rattle.grammar.specs.Octets.{AllPass, among, next_is}
use Rattle.grammar.specs.Tokens.{is_digit, is_letter, is_name_octet}
use Rattle.grammar.specs.TokenReading.{name_len}
use Rattle.grammar.specs.TextReading.{Read, Wrong, read_word}
use Rattle.grammar.proofs.Names.{name_all}

-- The text ends inside a word.
pub word_at_end : (w : List ℕ) (i size : ℕ) (left : List ℕ) (total : Read (Unit {0})) → i < length w → length left < 1 → read_word (drop i w) size left ≡ total → total ≡ Err (Wrong (size - length left))
word_at_end w i size [] total lt le e =
    let same : size ≡ size - 0 = omega arith in
    sym e ∙ ap (λ (v : List ℕ). read_word v size []) (drop-cons w i 0 lt) ∙ ap (λ (n : ℕ). Err (Wrong n)) same
word_at_end w i size (c ∷ left) total lt le e = absurd (omega arith)

pub letter_ascii : (c : ℕ) → is_letter c ≡ true → c < 128
letter_ascii c h = go (or_cases (leb 65 c && leb c 90) (leb 97 c && leb c 122) h)
  where
    go : ((leb 65 c && leb c 90) ≡ true) ⊎ ((leb 97 c && leb c 122) ≡ true) → c < 128
    go (inl k) = omega (arith, leb-true c 90 (and_parts (leb 65 c) (leb c 90) k).1)
    go (inr k) = omega (arith, leb-true c 122 (and_parts (leb 97 c) (leb c 122) k).1)

pub name_octet_ascii : (c : ℕ) → is_name_octet c ≡ true → c < 128
name_octet_ascii c h = go (or_cases (is_letter c || is_digit c) (eqb c 45 || eqb c 95) h)
  where
    word : (is_letter c ≡ true) ⊎ (is_digit c ≡ true) → c < 128
    word (inl k) = letter_ascii c k
    word (inr k) = omega (arith, leb-true c 57 (and_parts (leb 48 c) (leb c 57) k).1)

    mark : (eqb c 45 ≡ true) ⊎ (eqb c 95 ≡ true) → c < 128
    mark (inl k) = omega (arith, eqb-true c 45 k)
    mark (inr k) = omega (arith, eqb-true c 95 k)

    go : ((is_letter c || is_digit c) ≡ true) ⊎ ((eqb c 45 || eqb c 95) ≡ true) → c < 128
    go (inl k) = word (or_cases (is_letter c) (is_digit c) k)
    go (inr k) = mark (or_cases (eqb c 45) (eqb c 95) k)

all_ascii : (s : List ℕ) → AllPass is_name_octet s → IsAscii s
all_ascii [] h = IsAscii-nil
all_ascii (c ∷ s) h = IsAscii-cons c s (name_octet_ascii c h.0) (all_ascii s h.1)

-- a name is text
pub name_utf8 : (s : List ℕ) (n : ℕ) → 1 ≤ length s → is_letter (get_or s 0 0) ≡ true → n ≡ name_len (take (length s - 1) (drop 1 s)) → IsUtf8 (take (n + 1) s)
name_utf8 [] n le h e = absurd (omega arith)
name_utf8 (c ∷ s) n le h e =
    let all : take (length (c ∷ s) - 1) s ≡ s = take_all (length (c ∷ s) - 1) s (omega arith) in
    let n_is : n ≡ name_len s = e ∙ ap name_len all in
    let one : n + 1 ≡ suc (name_len s) = omega (arith, n_is) in
    subst (λ (k : ℕ). IsUtf8 (take k (c ∷ s))) (sym one) (IsUtf8-from_ascii (c ∷ take (name_len s) s) (IsAscii-cons c (take (name_len s) s) (letter_ascii c h) (all_ascii (take (name_len s) s) (name_all s))))

among_is_any : (xs : List ℕ) (c : ℕ) → list_any (λ x. eqb c x) xs ≡ among xs c
among_is_any [] c = refl
among_is_any (x ∷ xs) c = ap (λ (b : Bool). eqb c x || b) (among_is_any xs c)

-- The next octet is looked for in the table.
pub next_is_any : (xs s : List ℕ) → 1 ≤ length s → list_any (λ x. eqb (get_or s 0 0) x) xs ≡ next_is (among xs) s
next_is_any xs [] le = absurd (omega arith)
next_is_any xs (c ∷ s) le = among_is_any xs c
