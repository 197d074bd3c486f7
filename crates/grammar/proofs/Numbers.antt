-- Numbers are tokens, and are read exactly.
use Rattle.std.proofs.Common.{◌≡◌, ℕ, ◌+◌, ◌-◌, ◌*◌, ◌≤◌, ◌<◌, Bool, true, false, List, [], ◌∷◌, ◌++◌, length, Ok, Err, refl, sym, ap, subst, ◌∙◌, arith, inl, inr, ltb, leb}
use Rattle.std.specs.Prelude.{◌⊎◌, ◌&&◌}
use Rattle.std.proofs.lemmas.Bool.{cond_both, both_ways, and_parts, and_cases, ltb-false, leb-false, leb-true, ltb-true, cases_eq}
use Rattle.grammar.specs.Octets.{AllPass, IsLonger}
use Rattle.grammar.specs.Tokens.{IsNumber, is_digit, number, number_from, number_of}
use Rattle.grammar.specs.TokenReading.{digits_from, read_number}
use Rattle.grammar.specs.TextReading.{Read, Wrong}
use Rattle.grammar.specs.Exactness.{Holds, IsExact, Reads, ReadsExactly}
use Rattle.grammar.proofs.Lists.{AllPass-at, AllPass-front, no_front}
use Rattle.grammar.proofs.OctetKinds.{Apart, Within}
use Rattle.grammar.proofs.Firsts.{Heads}
use Rattle.grammar.proofs.Tokens.{IsLast, IsToken, token_heads, token_reads, token_stops}
use Rattle.grammar.proofs.Starts.{StartsIn}

pub number_from-append : (v : ℕ) (a b : List ℕ) → number_from v (a ++ b) ≡ number_from (number_from v a) b
number_from-append v [] b = refl
number_from-append v (c ∷ a) b = number_from-append (v * 10 + (c - 48)) a b

pub number_from_le : (v : ℕ) (s : List ℕ) → v ≤ number_from v s
number_from_le v [] = omega arith
number_from_le v (c ∷ s) = omega (arith, number_from_le (v * 10 + (c - 48)) s)

pub digit_low : (c : ℕ) → is_digit c ≡ true → 48 ≤ c
digit_low c t = leb-true 48 c (and_parts (leb 48 c) (leb c 57) t).0

pub digit_high : (c : ℕ) → is_digit c ≡ true → c ≤ 57
digit_high c t = leb-true c 57 (and_parts (leb 48 c) (leb c 57) t).1

-- the front digits of s go on with v as far as the number stays below high
record IsDigits (high v : ℕ) (s : List ℕ) (r : ℕ × List ℕ) : Type 0 where
  front : List ℕ
  parts : s ≡ front ++ r.1
  all : AllPass is_digit front
  lead : v ≡ 0 → front ≡ []
  value : number_from v front ≡ r.0
  most : r.0 ≤ high
  last : (x : ℕ) (more : List ℕ) → r.1 ≡ x ∷ more → is_digit x ≡ true → (r.0 ≡ 0) ⊎ (high < r.0 * 10 + (x - 48))

digits_of : (high v : ℕ) (s : List ℕ) → v ≤ high → IsDigits high v s (digits_from high v s)
digits_of high v [] le = record { front = []; parts = refl; all = tt; lead = λ e. refl; value = refl; most = le; last = λ x more e t. absurd cc }
digits_of high v (c ∷ s) le =
    cond_both (is_digit c && (ltb 0 v && leb (v * 10 + (c - 48)) high)) (digits_from high (v * 10 + (c - 48)) s) (v, c ∷ s) (λ (r : ℕ × List ℕ). IsDigits high v (c ∷ s) r)
    (λ t. let p = and_parts (is_digit c) (ltb 0 v && leb (v * 10 + (c - 48)) high) t in
    let q = and_parts (ltb 0 v) (leb (v * 10 + (c - 48)) high) p.1 in
    let some : 0 < v = ltb-true 0 v q.0 in
    let h = digits_of high (v * 10 + (c - 48)) s (leb-true (v * 10 + (c - 48)) high q.1) in
    record { front = c ∷ h.front; parts = ap (λ (w : List ℕ). c ∷ w) h.parts; all = (p.0, h.all); lead = λ e. absurd (omega arith); value = h.value; most = h.most; last = h.last })
    (λ t. record { front = []; parts = refl; all = tt; lead = λ e. refl; value = refl; most = le; last = λ x more e digit. over t x more e digit })
  where
    over : (is_digit c && (ltb 0 v && leb (v * 10 + (c - 48)) high)) ≡ false → (x : ℕ) (more : List ℕ) → c ∷ s ≡ x ∷ more → is_digit x ≡ true → (v ≡ 0) ⊎ (high < v * 10 + (x - 48))
    over t x more e digit = go (and_cases (is_digit c) (ltb 0 v && leb (v * 10 + (c - 48)) high) t)
      where
        same : c ≡ x
        same = cc

        inner : (ltb 0 v ≡ false) ⊎ (leb (v * 10 + (c - 48)) high ≡ false) → (v ≡ 0) ⊎ (high < v * 10 + (x - 48))
        inner (inl f) = inl (omega (arith, ltb-false 0 v f))
        inner (inr f) = inr (omega (arith, leb-false (v * 10 + (c - 48)) high f, same))

        go : (is_digit c ≡ false) ⊎ ((ltb 0 v && leb (v * 10 + (c - 48)) high) ≡ false) → (v ≡ 0) ⊎ (high < v * 10 + (x - 48))
        go (inl f) = absurd (both_ways (is_digit x) (ap is_digit (sym same) ∙ f) digit)
        go (inr f) = inner (and_cases (ltb 0 v) (leb (v * 10 + (c - 48)) high) f)

module _ (low high : ℕ) (small : low ≤ 1) (large : 9 ≤ high) where
  number_closed : (a b : List ℕ) → IsLonger a → IsNumber low high (a ++ b) → IsNumber low high a
  number_closed [] b lo h = lo
  number_closed (c ∷ a) b lo h =
      let v : number_of ((c ∷ a) ++ b) ≡ number_from (number_of (c ∷ a)) b = number_from-append 0 (c ∷ a) b in
      (h.0, AllPass-front is_digit a b h.1, λ e. no_front a b (h.2 e), least (cases_eq c 48), omega (arith, h.4, v, number_from_le (number_of (c ∷ a)) b))
    where
      least : (c ≡ 48) ⊎ (c ≡ 48 → ⊥) → low ≤ number_of (c ∷ a)
      least (inl e) = let nil : a ++ b ≡ [] = h.2 e in let nil_a : a ≡ [] = no_front a b nil in
          let same : number_of (c ∷ (a ++ b)) ≡ number_of (c ∷ a) = ap (λ (w : List ℕ). number_of (c ∷ w)) (nil ∙ sym nil_a) in omega (arith, h.3, same)
      least (inr ne) = omega (arith, digit_low c h.0, ne, number_from_le (0 * 10 + (c - 48)) a)

  number_octets : (a b : List ℕ) (c : ℕ) → IsLonger a → IsNumber low high (a ++ c ∷ b) → is_digit c ≡ true
  number_octets [] b c lo h = absurd lo
  number_octets (x ∷ a) b c lo h = AllPass-at is_digit a b c h.1

  number_starts : (a : List ℕ) → IsNumber low high a → StartsIn is_digit a
  number_starts [] h = h
  number_starts (c ∷ a) h = h.0

  pub numbers : IsToken (IsNumber low high) is_digit is_digit
  numbers = record { closed = number_closed; octets = number_octets; starts = number_starts }

  number_last : (c : ℕ) (s : List ℕ) (r : ℕ × List ℕ) → is_digit c ≡ true → (h : IsDigits high (c - 48) s r) → IsLast (IsNumber low high) (c ∷ h.front) r.1
  number_last c s r digit h = go r.1 refl
    where
      no_tail : (w : List ℕ) (x : ℕ) → w ++ x ∷ [] ≡ [] → ⊥
      no_tail [] x e = cc
      no_tail (y ∷ w) x e = cc

      go : (back : List ℕ) → r.1 ≡ back → IsLast (IsNumber low high) (c ∷ h.front) back
      go [] e = tt
      go (x ∷ back) e = λ is. over (h.last x back e (AllPass-at is_digit h.front [] x is.1)) is.2 is.4
        where
          first : 0 * 10 + (c - 48) ≡ c - 48
          first = omega arith

          whole : number_of (c ∷ (h.front ++ x ∷ [])) ≡ r.0 * 10 + (x - 48)
          whole = ap (λ (v : ℕ). number_from v (h.front ++ x ∷ [])) first ∙ number_from-append (c - 48) h.front (x ∷ []) ∙ ap (λ (v : ℕ). v * 10 + (x - 48)) h.value

          over : (r.0 ≡ 0) ⊎ (high < r.0 * 10 + (x - 48)) → (c ≡ 48 → h.front ++ x ∷ [] ≡ []) → number_of (c ∷ (h.front ++ x ∷ [])) ≤ high → ⊥
          over (inl z) lead most = no_tail h.front x (lead (omega (arith, digit_low c digit, h.value, z, number_from_le (c - 48) h.front)))
          over (inr f) lead most = omega (arith, f, most, whole)

  module _ (d : ℕ) (follow : ℕ → Bool) (apart : Apart is_digit follow) where
    number_holds : ReadsExactly (λ e. number low high) d follow (read_number low high)
    number_holds at [] = token_stops (IsNumber low high) number_of is_digit is_digit follow numbers apart d at (at + 0) [] (omega arith) tt
    number_holds at (c ∷ s) =
        cond_both (is_digit c && leb low (c - 48)) (Ok (digits_from high (c - 48) s)) (Err (Wrong ((at + length (c ∷ s)) - length (c ∷ s)))) (λ (r : Read ℕ). Holds (λ e. number low high) d follow at (c ∷ s) r)
        (λ t. let p = and_parts (is_digit c) (leb low (c - 48)) t in
        let h = digits_of high (c - 48) s (omega (arith, digit_high c p.0)) in
        let first : 0 * 10 + (c - 48) ≡ c - 48 = omega arith in
        let value : number_of (c ∷ h.front) ≡ (digits_from high (c - 48) s).0 = ap (λ (v : ℕ). number_from v h.front) first ∙ h.value in
        let least : low ≤ number_of (c ∷ h.front) = omega (arith, leb-true low (c - 48) p.1, value, h.value, number_from_le (c - 48) h.front) in
        let lead : c ≡ 48 → h.front ≡ [] = λ e. h.lead (omega (arith, e)) in
        let is : IsNumber low high (c ∷ h.front) = (p.0, h.all, lead, least, omega (arith, value, h.most)) in
        subst (λ (v : ℕ). Reads (λ e. number low high) d follow at (c ∷ s) v (digits_from high (c - 48) s).1) value
        (token_reads (IsNumber low high) number_of is_digit is_digit follow numbers apart d at (c ∷ s) (c ∷ h.front) (digits_from high (c - 48) s).1
        (ap (λ (w : List ℕ). c ∷ w) h.parts) is (number_last c s (digits_from high (c - 48) s) p.0 h)))
        (λ t. token_stops (IsNumber low high) number_of is_digit is_digit follow numbers apart d at ((at + length (c ∷ s)) - length (c ∷ s)) (c ∷ s) (omega arith)
        (λ is. no_digit (and_cases (is_digit c) (leb low (c - 48)) t) is.0 is.3))
      where
        no_digit : (is_digit c ≡ false) ⊎ (leb low (c - 48) ≡ false) → is_digit c ≡ true → low ≤ number_of (c ∷ []) → ⊥
        no_digit (inl f) t le = both_ways (is_digit c) f t
        no_digit (inr f) t le = omega (arith, leb-false low (c - 48) f, le)

    pub number_exact : IsExact (λ e. number low high) d follow (read_number low high)
    number_exact = record { reads = number_holds }

pub number_heads : (low high : ℕ) → low ≤ 1 → 9 ≤ high → Heads (λ e. number low high) is_digit
number_heads low high small large = token_heads (IsNumber low high) number_of is_digit is_digit (λ c. false) (numbers low high small large) (λ c h k. absurd cc)

pub digits_within : (to : ℕ → Bool) → ((c : ℕ) → 48 ≤ c → c ≤ 57 → to c ≡ true) → Within is_digit to
digits_within to h c k = let p = and_parts (leb 48 c) (leb c 57) k in h c (leb-true 48 c p.0) (leb-true c 57 p.1)
