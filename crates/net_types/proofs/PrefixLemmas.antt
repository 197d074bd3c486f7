-- Laws of prefixes: covering, lying within, meets, and equality.
use Rattle.std.proofs.Common.{◌≡◌, ◌≢◌, ℕ, zero, suc, ◌+◌, ◌-◌, ◌%◌, ◌^◌, ◌<◌, ◌≤◌, Bool, true, false, eqb, leb, ◌&&◌, cond, Option, Some, None, ◌*◌, ◌/◌, refl, inl, inr, sym, ap, ◌∙◌, subst, arith}
use Rattle.std.specs.Int.{bit_at}
use Rattle.std.specs.Coded.{le_prop}
use Rattle.std.proofs.lemmas.Bool.{eqb-true, eq-eqb, leb-true, le-leb, and_parts, and_from, cases_Bool, cases_lt, cases_eq, and_cases, false_from_ne_true, false≢true}
use Rattle.std.proofs.Common.{lit<}
use Rattle.std.proofs.Math.Nat.{div-add-mod, ℕ_set, div-lt_iff_lt-mul, mod-lt, mul-mod_right}
use Rattle.std.proofs.Math.Pow.{pow-lt}
use Rattle.std.proofs.lemmas.Nat.{pow_pos, pow-add, mul-add-lt, div-mul-add}
use Rattle.std.proofs.lemmas.Nat.Bits.{bit_at-pow_same, bit_at-zero, bit_at_cat_low}
use Rattle.net_types.specs.declared.address.Ip.{Ip}
use Rattle.net_types.specs.declared.prefix.Prefix.{Prefix}
use Rattle.net_types.specs.Bits.{same_bits}
use Rattle.net_types.specs.Prefixes.{covers, lies_within, meet_prefixes}
use Rattle.net_types.proofs.BitLemmas.{same_bits-quotient}

-- ---- the first bits of two numbers

pub same_bits_refl : (n a : ℕ) → same_bits n a a ≡ true
unfolding same_bits
same_bits_refl zero a = refl
same_bits_refl (suc n) a = and_from _ _ (eq-eqb _ _ refl) (same_bits_refl n a)

pub same_bits_sym : (n a b : ℕ) → same_bits n a b ≡ true → same_bits n b a ≡ true
unfolding same_bits
same_bits_sym zero a b h = refl
same_bits_sym (suc n) a b h =
    let parts = and_parts (eqb (bit_at a (31 - n)) (bit_at b (31 - n))) (same_bits n a b) h in
    and_from _ _ (eq-eqb _ _ (sym (eqb-true _ _ parts.0))) (same_bits_sym n a b parts.1)

pub same_bits_trans : (n a b c : ℕ) → same_bits n a b ≡ true → same_bits n b c ≡ true → same_bits n a c ≡ true
unfolding same_bits
same_bits_trans zero a b c h k = refl
same_bits_trans (suc n) a b c h k =
    let left = and_parts (eqb (bit_at a (31 - n)) (bit_at b (31 - n))) (same_bits n a b) h in
    let right = and_parts (eqb (bit_at b (31 - n)) (bit_at c (31 - n))) (same_bits n b c) k in
    and_from _ _ (eq-eqb _ _ (eqb-true _ _ left.0 ∙ eqb-true _ _ right.0)) (same_bits_trans n a b c left.1 right.1)

pub same_bits_shorter : (m n a b : ℕ) → m ≤ n → same_bits n a b ≡ true → same_bits m a b ≡ true
unfolding same_bits
same_bits_shorter m zero a b l h = let none : m ≡ 0 = omega arith in rw none refl
same_bits_shorter m (suc n) a b l h =
    elim (cases_lt m (suc n)) [
      | inl less ↦ same_bits_shorter m n a b (omega arith) (and_parts (eqb (bit_at a (31 - n)) (bit_at b (31 - n))) (same_bits n a b) h).1
      | inr more ↦ let e : suc n ≡ m = omega arith in subst (λ k. same_bits k a b ≡ true) e h
    ]

-- ---- covers

-- a test that follows from another adds nothing to it
and_absorb : (x y : Bool) → (x ≡ true → y ≡ true) → x ≡ (x && y)
and_absorb true y h = sym (h refl)
and_absorb false y h = refl

and_absorb' : (x y : Bool) → (y ≡ true → x ≡ true) → y ≡ (x && y)
and_absorb' x true h = sym (and_from x true (h refl) refl)
and_absorb' true false h = refl
and_absorb' false false h = refl

-- what a longer prefix covers is covered by one that covers its address
pub within-covers : (p q : Prefix) (ip : Ip) → lies_within p q ≡ true → covers p ip ≡ true → covers q ip ≡ true
within-covers p q ip within here =
    let parts = and_parts (leb q.len p.len) (covers q p.address) within in
    same_bits_trans q.len q.address.0 p.address.0 ip.0 parts.1 (same_bits_shorter q.len p.len p.address.0 ip.0 (leb-true _ _ parts.0) here)

-- two prefixes that cover an address lie one within the other
pub both_cover : (p q : Prefix) (ip : Ip) → q.len ≤ p.len → covers p ip ≡ true → covers q ip ≡ true → lies_within p q ≡ true
both_cover p q ip shorter here there =
    and_from _ _ (le-leb _ _ shorter) (same_bits_trans q.len q.address.0 ip.0 p.address.0 there (same_bits_sym q.len p.address.0 ip.0 (same_bits_shorter q.len p.len p.address.0 ip.0 shorter here)))

-- what an optional prefix covers: nothing where there is none
abbrev pub covers_option : Option Prefix → Ip → Bool
covers_option (Some p) ip = covers p ip
covers_option None ip = false

-- what is in the meet of two prefixes is in both
pub covers-meet : (p q : Prefix) (ip : Ip) → covers_option (meet_prefixes p q) ip ≡ (covers p ip && covers q ip)
unfolding meet_prefixes
covers-meet p q ip =
    elim (cases_Bool (lies_within p q)) [
      | inl inside ↦ ap (λ b. covers_option (cond b (Some p) (cond (lies_within q p) (Some q) None)) ip) inside ∙ and_absorb (covers p ip) (covers q ip) (within-covers p q ip inside)
      | inr outside ↦ ap (λ b. covers_option (cond b (Some p) (cond (lies_within q p) (Some q) None)) ip) outside ∙ elim (cases_Bool (lies_within q p)) [
        | inl around ↦ ap (λ b. covers_option (cond b (Some q) None) ip) around ∙ and_absorb' (covers p ip) (covers q ip) (within-covers q p ip around)
        | inr apart ↦ ap (λ b. covers_option (cond b (Some q) None) ip) apart ∙ sym (false_from_ne_true _ (λ both.
            let parts = and_parts (covers p ip) (covers q ip) both in
            elim (cases_lt q.len p.len) [
              | inl longer ↦ false≢true (sym outside ∙ both_cover p q ip (omega arith) parts.0 parts.1)
              | inr shorter ↦ false≢true (sym apart ∙ both_cover q p ip shorter parts.1 parts.0)
            ]))
      ]
    ]

-- ---- equality

made : (a len : ℕ) → a < 2 ^ 32 → len ≤ 32 → a % 2 ^ (32 - len) ≡ 0 → Prefix
made a len in_range short zeros = record { address = record { 0 = a }; len = len; in_range = in_range; short = short; host_bits_zero = zeros }

same_made : (a len : ℕ) (r r' : a < 2 ^ 32) (s s' : len ≤ 32) (z z' : a % 2 ^ (32 - len) ≡ 0) → made a len r s z ≡ made a len r' s' z'
same_made a len r r' s s' z z' =
    ap (λ x. made a len x s z) (le_prop r r') ∙ ap (λ x. made a len r' x z) (le_prop s s') ∙ ap (λ x. made a len r' s' x) (ℕ_set _ _ z z')

same_values : (a b len : ℕ) → a ≡ b → (r : a < 2 ^ 32) (r' : b < 2 ^ 32) (s s' : len ≤ 32) (z : a % 2 ^ (32 - len) ≡ 0) (z' : b % 2 ^ (32 - len) ≡ 0) → made a len r s z ≡ made b len r' s' z'
same_values a b len e r r' s s' z z' =
    subst (λ x. (r' : x < 2 ^ 32) (z' : x % 2 ^ (32 - len) ≡ 0) → made a len r s z ≡ made x len r' s' z') e (λ r' z'. same_made a len r r' s s' z z') r' z'

-- prefixes of one address and length are one
pub prefix_ext : (p q : Prefix) → p.address.0 ≡ q.address.0 → p.len ≡ q.len → p ≡ q
unfolding made
prefix_ext p q e l =
    subst (λ len. (s' : len ≤ 32) (z' : q.address.0 % 2 ^ (32 - len) ≡ 0) → p ≡ made q.address.0 len q.in_range s' z') l (λ s' z'. same_values p.address.0 q.address.0 p.len e p.in_range q.in_range p.short s' p.host_bits_zero z') q.short q.host_bits_zero

-- prefixes of one length that agree in their bits are one
pub prefix_from_bits : (p q : Prefix) → p.len ≡ q.len → covers p q.address ≡ true → p ≡ q
prefix_from_bits p q l agree =
    let divided : p.address.0 / 2 ^ (32 - p.len) ≡ q.address.0 / 2 ^ (32 - p.len) = eqb-true _ _ (sym (same_bits-quotient p.len p.address.0 q.address.0 p.short p.in_range q.in_range) ∙ agree) in
    let zeros : q.address.0 % 2 ^ (32 - p.len) ≡ 0 = rw l q.host_bits_zero in
    let first = div-add-mod p.address.0 (2 ^ (32 - p.len)) in
    let second = div-add-mod q.address.0 (2 ^ (32 - p.len)) in
    prefix_ext p q (sym first ∙ cc (p.host_bits_zero, zeros, divided) ∙ second) l

-- the meet doesn't depend on the order
pub meet_prefixes_comm : (p q : Prefix) → meet_prefixes p q ≡ meet_prefixes q p
unfolding meet_prefixes
meet_prefixes_comm p q = elim (cases_Bool (lies_within p q)) [
  | inl inside ↦ elim (cases_Bool (lies_within q p)) [
    | inl around ↦
        let here = and_parts (leb q.len p.len) (covers q p.address) inside in
        let there = and_parts (leb p.len q.len) (covers p q.address) around in
        let same : p ≡ q = prefix_from_bits p q (let le = leb-true _ _ here.0 in let ge = leb-true _ _ there.0 in omega arith) there.1 in
        rw (inside, around) (ap Some same)
    | inr apart ↦ rw (inside, apart) refl
  ]
  | inr outside ↦ elim (cases_Bool (lies_within q p)) [
    | inl around ↦ rw (outside, around) refl
    | inr apart ↦ rw (outside, apart) refl
  ]
]

-- ---- an address in one prefix and not in another

-- an address that a prefix covers and another doesn't
pub record SeparatesPrefixes (p q : Prefix) : Type 0 where
  pub address : Ip
  pub inside : covers p address ≡ true
  pub outside : covers q address ≡ false
  pub fits : address.0 < 2 ^ 32

last_bit : (n a b : ℕ) → same_bits (suc n) a b ≡ true → bit_at a (31 - n) ≡ bit_at b (31 - n)
unfolding same_bits
last_bit n a b h = eqb-true _ _ (and_parts (eqb (bit_at a (31 - n)) (bit_at b (31 - n))) (same_bits n a b) h).0

-- 0 or 2 ^ k, whichever has another bit at k than the number
record OtherBit (q k : ℕ) : Type 0 where
  value : ℕ
  small : value < 2 ^ suc k
  differs : bit_at q k ≢ bit_at value k

other_bit : (q k : ℕ) → OtherBit q k
other_bit q k = elim (cases_eq (bit_at q k) 0) [
  | inl zero_bit ↦ record { value = 2 ^ k; small = pow-lt (lt-add-one' k); differs = λ e. let h : 0 ≡ 1 = sym zero_bit ∙ e ∙ bit_at-pow_same k in omega arith }
  | inr one_bit ↦ record { value = 0; small = pow_pos (suc k); differs = λ e. one_bit (e ∙ bit_at-zero k) }
]
  where
    lt-add-one' : (k : ℕ) → k < suc k
    lt-add-one' k = omega arith

-- where the second prefix is longer, the next bit tells them apart
longer_apart : (p q : Prefix) → p.len < q.len → SeparatesPrefixes p q
longer_apart p q longer =
    let k : ℕ = 31 - p.len in
    let q_short : q.len ≤ 32 = q.short in
    let next : 32 - p.len ≡ suc (31 - p.len) = omega arith in
    let other = other_bit q.address.0 (31 - p.len) in
    let w : ℕ = 2 ^ suc (31 - p.len) in
    let m : ℕ = p.address.0 / 2 ^ suc (31 - p.len) in
    let small : p.address.0 / 2 ^ suc (31 - p.len) < 2 ^ p.len =
    (div-lt_iff_lt-mul (pow_pos (suc (31 - p.len)))).1 (let e : p.len + suc (31 - p.len) ≡ 32 = omega arith in rw (← pow-add 2 p.len (suc (31 - p.len)), e) p.in_range) in
    let size : 2 ^ suc (31 - p.len) * 2 ^ p.len ≡ 2 ^ 32 = let e : suc (31 - p.len) + p.len ≡ 32 = omega arith in sym (pow-add 2 (suc (31 - p.len)) p.len) ∙ ap (λ i. 2 ^ i) e in
    let fits : p.address.0 / 2 ^ suc (31 - p.len) * 2 ^ suc (31 - p.len) + other.value < 2 ^ 32 = rw size at (mul-add-lt (p.address.0 / 2 ^ suc (31 - p.len)) (2 ^ suc (31 - p.len)) other.value (2 ^ p.len) small other.small) in
    let quotient : (p.address.0 / 2 ^ suc (31 - p.len) * 2 ^ suc (31 - p.len) + other.value) / 2 ^ suc (31 - p.len) ≡ p.address.0 / 2 ^ suc (31 - p.len) = div-mul-add _ _ _ other.small in
    record {
      address = record { 0 = p.address.0 / 2 ^ suc (31 - p.len) * 2 ^ suc (31 - p.len) + other.value };
      inside = same_bits-quotient p.len p.address.0 _ p.short p.in_range fits ∙ eq-eqb _ _ (rw (next, quotient) refl);
      outside = false_from_ne_true _ (λ covered.
          let bits = same_bits_shorter (suc p.len) q.len q.address.0 _ longer covered in
          other.differs (last_bit p.len q.address.0 _ bits ∙ bit_at_cat_low (p.address.0 / 2 ^ suc (31 - p.len)) (suc (31 - p.len)) other.value (31 - p.len) (omega arith)));
      fits = fits;
    }

pub prefix_apart : (p q : Prefix) → lies_within p q ≡ false → SeparatesPrefixes p q
prefix_apart p q h = elim (cases_lt p.len q.len) [
  | inl longer ↦ longer_apart p q longer
  | inr shorter ↦ record {
    address = p.address;
    inside = same_bits_refl p.len p.address.0;
    outside = elim (and_cases (leb q.len p.len) (covers q p.address) h) [ inl not_le ↦ absurd (false≢true (sym not_le ∙ le-leb _ _ shorter)) | inr misses ↦ misses ];
    fits = p.in_range;
  }
]

-- prefixes that lie within each other are one
pub prefix_antisym : (p q : Prefix) → lies_within p q ≡ true → lies_within q p ≡ true → p ≡ q
prefix_antisym p q inside around =
    let here = and_parts (leb q.len p.len) (covers q p.address) inside in
    let there = and_parts (leb p.len q.len) (covers p q.address) around in
    prefix_from_bits p q (let le = leb-true _ _ here.0 in let ge = leb-true _ _ there.0 in omega arith) there.1

-- ---- prefixes of eight bits

pub eight_bits-in_range : (n : ℕ) → 16777216 * (n % 256) < 2 ^ 32
eight_bits-in_range n =
    let small : n % 256 < 256 = mod-lt n (lit< tt) in
    omega arith

pub eight_bits-zeros : (n : ℕ) → 16777216 * (n % 256) % 2 ^ (32 - 8) ≡ 0
eight_bits-zeros n = mul-mod_right 16777216 (n % 256)
