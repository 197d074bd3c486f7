-- Texts that agree with whatever follows them: what they then have in common.
use Rattle.std.proofs.Common.{◌≡◌, ◌⊎◌, ℕ, zero, suc, ◌+◌, ◌*◌, ◌/◌, ◌%◌, ◌^◌, ◌<◌, ◌≤◌, ◌==◌, Bool, true, false, cond, ◌&&◌, ◌||◌, nat_le, nat_lt, List, [], ◌∷◌, ◌++◌, append_assoc, length, decimal, inl, inr, refl, sym, ap, subst, ◌∙◌, arith}
use Rattle.std.specs.List.{list_all}
use Rattle.std.specs.Fmt.{digit_glyph, digits, digits_onto}
use Rattle.std.specs.Str.Parse.{digits_value}
use Rattle.std.proofs.lemmas.Bool.{and_parts, cases_lt}
use Rattle.std.proofs.lemmas.Bool.Decides.{nat_tests}
use Rattle.std.proofs.Math.Nat.{one-le-pow, pow-suc}
use Rattle.std.proofs.lemmas.Fmt.{decimal_is_IsNumeral_wide, length-decimal-le_wide}
use Rattle.std.proofs.lemmas.Nat.{le-div}
use Rattle.std.proofs.lemmas.List.{append_cancel_left}
use Rattle.std.proofs.lemmas.List.Folds.{list_all-append}
use Rattle.exchange_laws.proofs.Lists.{clash}

-- ---- octets

-- whether a text begins with an octet that passes a test
abbrev pub starts : (ℕ → Bool) → List ℕ → Bool
starts test [] = false
starts test (c ∷ cs) = test c

-- each octet of a text passes a test
abbrev pub Over : (ℕ → Bool) → List ℕ → Type 0
Over test text = list_all test text ≡ true

-- no end of a line
abbrev pub is_inside : ℕ → Bool
is_inside c = nat_lt 10 c

-- `0` to `9`, and `a` to `f`
abbrev pub is_hex : ℕ → Bool
is_hex c = (nat_le 48 c && nat_le c 57) || (nat_le 97 c && nat_le c 102)

pub head_of : {X : Type 0} (c d : X) (cs ds : List X) → c ∷ cs ≡ d ∷ ds → c ≡ d
head_of c d cs ds e = cc

pub rest_of : {X : Type 0} (c d : X) (cs ds : List X) → c ∷ cs ≡ d ∷ ds → cs ≡ ds
rest_of c d cs ds e = cc

-- two texts of octets that pass a test, and behind them none that does
pub spans : (test : ℕ → Bool) (x y s t : List ℕ) → Over test x → Over test y → starts test s ≡ false → starts test t ≡ false → x ++ s ≡ y ++ t → (x ≡ y) × (s ≡ t)
spans test [] [] s t over also ends stops e = (refl, e)
spans test [] (d ∷ ys) s t over also ends stops e = absurd (clash (and_parts (test d) (list_all test ys) also).0 (sym (ap (starts test) e) ∙ ends))
spans test (c ∷ xs) [] s t over also ends stops e = absurd (clash (and_parts (test c) (list_all test xs) over).0 (ap (starts test) e ∙ stops))
spans test (c ∷ xs) (d ∷ ys) s t over also ends stops e =
    let rest = spans test xs ys s t (and_parts (test c) (list_all test xs) over).1 (and_parts (test d) (list_all test ys) also).1 ends stops (rest_of c d (xs ++ s) (ys ++ t) e) in
    let one : c ≡ d = head_of c d (xs ++ s) (ys ++ t) e in
    let more : xs ≡ ys = rest.0 in
    let same : c ∷ xs ≡ d ∷ ys = cc in (same, rest.1)

pub over_append : (test : ℕ → Bool) (x y : List ℕ) → Over test x → Over test y → Over test (x ++ y)
over_append test x y one two = list_all-append test x y ∙ ap (λ b. b && list_all test y) one ∙ two

pub over_more : (test : ℕ → Bool) (c : ℕ) (x : List ℕ) → test c ≡ true → Over test x → Over test (c ∷ x)
over_more test c x one rest = ap (λ b. b && list_all test x) one ∙ rest

-- a test that passes the digits passes decimals, whatever the number is
module _ (test : ℕ → Bool) (digits : (c : ℕ) → 48 ≤ c → c ≤ 57 → test c ≡ true) where
  glyph_passes : (n : ℕ) → test (digit_glyph false (n % 10)) ≡ true
  glyph_passes n = by (n % 10) (omega arith)
    where
      low : (d : ℕ) → d < 10 → 48 ≤ digit_glyph false d
      low d less = grind (arith, nat_tests)

      high : (d : ℕ) → d < 10 → digit_glyph false d ≤ 57
      high d less = grind (arith, nat_tests)

      by : (d : ℕ) → d < 10 → test (digit_glyph false d) ≡ true
      by d less = digits (digit_glyph false d) (low d less) (high d less)

  onto_over : (k n : ℕ) (behind : List ℕ) → Over test behind → Over test (digits_onto k 10 false n behind)
  onto_over zero n behind is = is
  onto_over (suc k) n behind is =
      let more : Over test (digit_glyph false (n % 10) ∷ behind) = over_more test (digit_glyph false (n % 10)) behind (glyph_passes n) is in
      by (n / 10 == 0) more (onto_over k (n / 10) (digit_glyph false (n % 10) ∷ behind) more)
    where
      by : (b : Bool) → Over test (digit_glyph false (n % 10) ∷ behind) → Over test (digits_onto k 10 false (n / 10) (digit_glyph false (n % 10) ∷ behind))
          → Over test (cond b (digit_glyph false (n % 10) ∷ behind) (digits_onto k 10 false (n / 10) (digit_glyph false (n % 10) ∷ behind)))
      by true one all = one
      by false one all = all

  whole : (n : ℕ) → digits_onto 64 10 false n [] ≡ decimal n
  unfolding digits
  whole n = refl

  pub over_decimal : (n : ℕ) → Over test (decimal n)
  over_decimal n = subst (Over test) (whole n) (onto_over 64 n [] refl)

-- ---- texts with whatever follows

-- two texts agree, with what may follow them, only where P holds and the same follows
pub record Alike (E : List ℕ → Type 0) (P : Type 0) (a b : List ℕ) : Type 0 where
  pub is : (s t : List ℕ) → E s → E t → a ++ s ≡ b ++ t → P × (s ≡ t)

-- no hexadecimal digit follows
abbrev pub Stops : List ℕ → Type 0
Stops s = starts is_hex s ≡ false

-- the line ends, or nothing follows
abbrev pub Ends : List ℕ → Type 0
Ends s = starts is_inside s ≡ false

-- this octet follows
abbrev pub Begins : ℕ → List ℕ → Type 0
Begins c s = (rest : List ℕ) × (s ≡ c ∷ rest)

-- nothing follows
abbrev pub Nothing : List ℕ → Type 0
Nothing s = s ≡ []

-- anything may follow
abbrev pub Anything : List ℕ → Type 0
Anything s = Unit {0}

pub both : {P Q : Type 0} {E F : List ℕ → Type 0} {a b c d : List ℕ} → Alike E P a b → Alike F Q c d → ((s : List ℕ) → F s → E (c ++ s)) → ((s : List ℕ) → F s → E (d ++ s)) → Alike F (P × Q) (a ++ c) (b ++ d)
both {a = a} {b = b} {c = c} {d = d} one two left right = record {
  is = λ s t ends stops e.
      let first = one.is (c ++ s) (d ++ t) (left s ends) (right t stops) (sym (append_assoc a c s) ∙ e ∙ append_assoc b d t) in
      let second = two.is s t ends stops first.1 in
      ((first.0, second.0), second.1);
}

pub behind : {P : Type 0} {E : List ℕ → Type 0} {a b : List ℕ} (w : List ℕ) → Alike E P a b → Alike E P (w ++ a) (w ++ b)
behind {a = a} {b = b} w one = record {
  is = λ s t ends stops e. one.is s t ends stops (append_cancel_left w (a ++ s) (b ++ t) (sym (append_assoc w a s) ∙ e ∙ append_assoc w b t));
}

-- behind a word that may follow anything may
pub closed : {P : Type 0} {E : List ℕ → Type 0} {a b : List ℕ} (w : List ℕ) → ((s : List ℕ) → E (w ++ s)) → Alike E P a b → Alike Anything P (a ++ w) (b ++ w)
closed {a = a} {b = b} w begins one = record {
  is = λ s t ends stops e.
      let first = one.is (w ++ s) (w ++ t) (begins s) (begins t) (sym (append_assoc a w s) ∙ e ∙ append_assoc b w t) in
      (first.0, append_cancel_left w s t first.1);
}

-- and so a further text
pub next : {P Q : Type 0} {F : List ℕ → Type 0} {a b c d : List ℕ} → Alike Anything P a b → Alike F Q c d → Alike F (P × Q) (a ++ c) (b ++ d)
next one two = both one two (λ s ends. tt) (λ s ends. tt)

pub gives : {P Q : Type 0} {E : List ℕ → Type 0} {a b : List ℕ} → (P → Q) → Alike E P a b → Alike E Q a b
gives then one = record { is = λ s t ends stops e. let is = one.is s t ends stops e in (then is.0, is.1) }

pub digit_hex : (c : ℕ) → 48 ≤ c → c ≤ 57 → is_hex c ≡ true
digit_hex c low high = grind (arith, nat_tests)

-- of a number with so many digits and more so many are written
onto_length : (k n : ℕ) (behind : List ℕ) → 10 ^ k ≤ n → length (digits_onto k 10 false n behind) ≡ k + length behind
onto_length zero n behind most = let is : length behind ≡ 0 + length behind = omega arith in is
onto_length (suc k) n behind most =
    let more : 10 ^ suc k ≡ 10 ^ k * 10 = pow-suc 10 k in
    let some : 1 ≤ 10 ^ k = one-le-pow k 10 (omega arith) in
    let less : 10 ^ k ≤ n / 10 = le-div (10 ^ k) n 10 (omega arith) (subst (λ x. x ≤ n) more most) in
    by (n / 10 == 0) refl less some (onto_length k (n / 10) (digit_glyph false (n % 10) ∷ behind) less)
  where
    not_none : (x p : ℕ) → x == 0 ≡ true → p ≤ x → 1 ≤ p → ⊥
    not_none x p none less some = grind (arith, nat_tests, none, less, some)

    by : (b : Bool) → (n / 10 == 0) ≡ b → 10 ^ k ≤ n / 10 → 1 ≤ 10 ^ k → length (digits_onto k 10 false (n / 10) (digit_glyph false (n % 10) ∷ behind)) ≡ k + length (digit_glyph false (n % 10) ∷ behind)
        → length (cond b (digit_glyph false (n % 10) ∷ behind) (digits_onto k 10 false (n / 10) (digit_glyph false (n % 10) ∷ behind))) ≡ suc k + length behind
    by true none less some rest = absurd (not_none (n / 10) (10 ^ k) none less some)
    by false some_left less some rest = rest ∙ (let is : k + suc (length behind) ≡ suc k + length behind = omega arith in is)

-- a number has a digit
onto_some : (k n : ℕ) (behind : List ℕ) → 0 < length behind → 0 < length (digits_onto k 10 false n behind)
onto_some zero n behind some = some
onto_some (suc k) n behind some = by (n / 10 == 0) (onto_some k (n / 10) (digit_glyph false (n % 10) ∷ behind) (omega arith))
  where
    by : (b : Bool) → 0 < length (digits_onto k 10 false (n / 10) (digit_glyph false (n % 10) ∷ behind)) → 0 < length (cond b (digit_glyph false (n % 10) ∷ behind) (digits_onto k 10 false (n / 10) (digit_glyph false (n % 10) ∷ behind)))
    by true rest = omega arith
    by false rest = rest

first_some : (k n : ℕ) → 0 < length (digits_onto (suc k) 10 false n [])
first_some k n = by (n / 10 == 0) (onto_some k (n / 10) (digit_glyph false (n % 10) ∷ []) (omega arith))
  where
    by : (b : Bool) → 0 < length (digits_onto k 10 false (n / 10) (digit_glyph false (n % 10) ∷ [])) → 0 < length (cond b (digit_glyph false (n % 10) ∷ []) (digits_onto k 10 false (n / 10) (digit_glyph false (n % 10) ∷ [])))
    by true rest = omega arith
    by false rest = rest

some_digits : (n : ℕ) → 0 < length (decimal n)
unfolding digits
some_digits n = first_some 63 n

long : (n : ℕ) → 10 ^ 64 ≤ n → length (decimal n) ≡ 64
unfolding digits
long n most = onto_length 64 n [] most

-- a number of at most 63 digits is told from any number
pub decimal_tells : (m n : ℕ) → m < 10 ^ 63 → decimal m ≡ decimal n → m ≡ n
decimal_tells m n low e = by (cases_lt n (10 ^ 64))
  where
    by : (n < 10 ^ 64) ⊎ (10 ^ 64 ≤ n) → m ≡ n
    by (inl less) = sym (decimal_is_IsNumeral_wide m (omega (arith, low))).1 ∙ ap (digits_value 10) e ∙ (decimal_is_IsNumeral_wide n less).1
    by (inr most) =
        let short : length (decimal m) ≤ 63 = length-decimal-le_wide 63 m (omega arith) low (omega (arith, low)) in
        let all : length (decimal n) ≡ 64 = long n most in
        let equal : length (decimal m) ≡ length (decimal n) = ap length e in
        absurd (omega (arith, short, all, equal))

-- whatever the number is, its text begins with a digit
pub number_starts : (n : ℕ) → starts is_hex (decimal n) ≡ true
number_starts n = by (decimal n) (some_digits n) (over_decimal is_hex digit_hex n)
  where
    by : (x : List ℕ) → 0 < length x → Over is_hex x → starts is_hex x ≡ true
    by [] some over = absurd (omega arith)
    by (d ∷ ds) some over = (and_parts (is_hex d) (list_all is_hex ds) over).0

pub decimals : (m n : ℕ) → m < 10 ^ 63 → Alike Stops (m ≡ n) (decimal m) (decimal n)
decimals m n low = record {
  is = λ s t ends stops e.
      let is = spans is_hex (decimal m) (decimal n) s t (over_decimal is_hex digit_hex m) (over_decimal is_hex digit_hex n) ends stops e in
      (decimal_tells m n low is.0, is.1);
}
