-- A prefix that begins before the end of another, no longer one or of its half, ends there at the latest.
use Rattle.std.proofs.Common.{◌≡◌, ℕ, suc, ◌+◌, ◌*◌, ◌-◌, ◌%◌, ◌/◌, ◌^◌, ◌<◌, ◌≤◌, true, false, inl, inr, refl, sym, ap, ◌∙◌, arith}
use Rattle.std.proofs.lemmas.Bool.{eqb-true, eq-eqb, leb-true, and_parts, cases_lt, false≢true}
use Rattle.std.proofs.Math.Nat.{mod-lt, suc-mul, lt_of_mul-lt-mul_right, mul-le-mul_right, add-mod_right, two-pow-succ, mod-eq_of_lt}
use Rattle.std.proofs.Math.Pow.{pow-lt}
use Rattle.std.proofs.lemmas.Nat.{pow_pos, div-mul-add, div-add-mod'}
use Rattle.net_types.specs.declared.address.Ip.{Ip}
use Rattle.net_types.specs.declared.prefix.Prefix.{Prefix}
use Rattle.net_types.specs.Prefixes.{covers, lies_within, any_prefix}
use Rattle.net_types.proofs.BitLemmas.{fewer_zeros, same_bits-quotient}
use Rattle.prefix_map.specs.Halves.{past, middle, LiesIn, LiesLow, LiesHigh}

-- two multiples differ by the number at least
multiples : (a m s : ℕ) → a % s ≡ 0 → m % s ≡ 0 → a < m → a + s ≤ m
multiples a m s e f less =
    let first : a / s * s ≡ a = let whole = div-add-mod' a s in omega (arith, whole, e) in
    let second : m / s * s ≡ m = let whole = div-add-mod' m s in omega (arith, whole, f) in
    let quotients : a / s < m / s = lt_of_mul-lt-mul_right s (let l : a / s * s < m / s * s = omega (arith, first, second, less) in l) in
    let step : suc (a / s) * s ≤ m / s * s = mul-le-mul_right s (let l : suc (a / s) ≤ m / s = omega (arith, quotients) in l) in
    let more = suc-mul (a / s) s in
    omega (arith, first, second, step, more)

stops : (q : Prefix) (m n : ℕ) → 32 - q.len ≤ n → m % 2 ^ n ≡ 0 → q.address.0 < m → past q ≤ m
stops q m n h whole less = multiples q.address.0 m (2 ^ (32 - q.len)) q.host_bits_zero (fewer_zeros m (32 - q.len) n h whole) less

pub two_halves : (n : ℕ) → n < 32 → 2 ^ (32 - n) ≡ 2 ^ (31 - n) + 2 ^ (31 - n)
two_halves n h = let e : 32 - n ≡ suc (31 - n) = omega arith in ap (λ i. 2 ^ i) e ∙ two-pow-succ (31 - n)

pub middle_divided : (p : Prefix) → p.len < 32 → middle p % 2 ^ (31 - p.len) ≡ 0
middle_divided p h = add-mod_right p.address.0 (2 ^ (31 - p.len)) ∙ fewer_zeros p.address.0 (31 - p.len) (32 - p.len) (omega arith) p.host_bits_zero

pub stops_at : (p q : Prefix) → p.len ≤ q.len → q.address.0 < p.address.0 → past q ≤ p.address.0
stops_at p q h less = stops q p.address.0 (32 - p.len) (omega arith) p.host_bits_zero less

pub stops_past : (p q : Prefix) → p.len ≤ q.len → q.address.0 < past p → past q ≤ past p
stops_past p q h less = stops q (past p) (32 - p.len) (omega arith) (add-mod_right p.address.0 (2 ^ (32 - p.len)) ∙ p.host_bits_zero) less

pub stops_middle : (p q : Prefix) → p.len < q.len → q.address.0 < middle p → past q ≤ middle p
stops_middle p q h less =
    let short = q.short in
    stops q (middle p) (31 - p.len) (omega arith) (middle_divided p (omega arith)) less

-- a prefix ends after it begins
pub begins : (p : Prefix) → p.address.0 < past p
begins p = let more = pow_pos (32 - p.len) in omega (arith, more)

pub begins_low : (p : Prefix) → p.address.0 < middle p
begins_low p = let more = pow_pos (31 - p.len) in omega (arith, more)

-- no prefix ends past the last address
pub in_range : (p : Prefix) → past p ≤ 2 ^ 32
in_range p = stops p (2 ^ 32) 32 (omega arith) refl p.in_range

-- the addresses that a prefix covers are those from its first one up to its end
pub covered : (p : Prefix) (ip : Ip) → ip.0 < 2 ^ 32 → covers p ip ≡ true → (p.address.0 ≤ ip.0) × (ip.0 < past p)
covered p ip fits h =
    let same : p.address.0 / 2 ^ (32 - p.len) ≡ ip.0 / 2 ^ (32 - p.len) = eqb-true _ _ (sym (same_bits-quotient p.len p.address.0 ip.0 p.short p.in_range fits) ∙ h) in
    let times = ap (λ n. n * 2 ^ (32 - p.len)) same in
    let first = div-add-mod' p.address.0 (2 ^ (32 - p.len)) in
    let second = div-add-mod' ip.0 (2 ^ (32 - p.len)) in
    let rest : ip.0 % 2 ^ (32 - p.len) < 2 ^ (32 - p.len) = mod-lt ip.0 (pow_pos (32 - p.len)) in
    let zeros = p.host_bits_zero in
    (omega (arith, times, first, second, zeros), omega (arith, times, first, second, rest, zeros))

pub covers_from : (p : Prefix) (ip : Ip) → p.address.0 ≤ ip.0 → ip.0 < past p → covers p ip ≡ true
covers_from p ip from until =
    let s : ℕ = 2 ^ (32 - p.len) in
    let first = div-add-mod' p.address.0 (2 ^ (32 - p.len)) in
    let zeros = p.host_bits_zero in
    let top = in_range p in
    let sum : p.address.0 / 2 ^ (32 - p.len) * 2 ^ (32 - p.len) + (ip.0 - p.address.0) ≡ ip.0 = omega (arith, first, zeros, from) in
    let quotient = div-mul-add (p.address.0 / 2 ^ (32 - p.len)) (2 ^ (32 - p.len)) (ip.0 - p.address.0) (omega (arith, from, until)) in
    same_bits-quotient p.len p.address.0 ip.0 p.short p.in_range (omega (arith, until, top)) ∙ eq-eqb _ _ (sym quotient ∙ ap (λ n. n / 2 ^ (32 - p.len)) sum)

-- ---- the two halves are prefixes

pub half_small : (p : Prefix) → 2 ^ (31 - p.len) < 2 ^ 32
half_small p = pow-lt (let h : 31 - p.len < 32 = omega arith in h)

pub half_exponent : (p : Prefix) → p.len < 32 → 32 - (p.len + 1) ≡ 31 - p.len
half_exponent p h = omega arith

pub upper_fits : (p : Prefix) → p.len < 32 → middle p < 2 ^ 32
upper_fits p h =
    let sum = two_halves p.len h in
    let top = in_range p in
    let some = pow_pos (31 - p.len) in
    omega (arith, sum, top, some)

pub upper_address : (p : Prefix) → p.len < 32 → p.address.0 + 1 * 2 ^ (31 - p.len) % 4294967296 ≡ middle p
upper_address p h =
    let small = half_small p in
    let one_of : 1 * 2 ^ (31 - p.len) ≡ 2 ^ (31 - p.len) = omega arith in
    let kept : 1 * 2 ^ (31 - p.len) % 4294967296 ≡ 2 ^ (31 - p.len) = ap (λ n. n % 4294967296) one_of ∙ mod-eq_of_lt small in
    ap (λ n. p.address.0 + n) kept

pub lower_zeros : (p : Prefix) → p.len < 32 → p.address.0 % 2 ^ (32 - (p.len + 1)) ≡ 0
lower_zeros p h = fewer_zeros p.address.0 (32 - (p.len + 1)) (32 - p.len) (omega arith) p.host_bits_zero

pub upper_zeros : (p : Prefix) → p.len < 32 → middle p % 2 ^ (32 - (p.len + 1)) ≡ 0
upper_zeros p h = ap (λ n. middle p % 2 ^ n) (half_exponent p h) ∙ middle_divided p h

-- ---- two prefixes that lie apart within a third are longer than it

pub left_longer : (w l r : Prefix) → LiesIn w l → LiesIn w r → past l ≤ r.address.0 → w.len < l.len
left_longer w l r left right apart = elim (cases_lt w.len l.len) [
  | inl less ↦ less
  | inr more ↦
      let longer = left.longer in
      let same : w.len ≡ l.len = omega arith in
      let size = ap (λ n. 2 ^ (32 - n)) same in
      let from = left.from in
      let until = right.until in
      let some = begins r in
      absurd (omega (arith, size, from, until, some, apart))
]

pub right_longer : (w l r : Prefix) → LiesIn w l → LiesIn w r → past l ≤ r.address.0 → w.len < r.len
right_longer w l r left right apart = elim (cases_lt w.len r.len) [
  | inl less ↦ less
  | inr more ↦
      let longer = right.longer in
      let same : w.len ≡ r.len = omega arith in
      let size = ap (λ n. 2 ^ (32 - n)) same in
      let from = left.from in
      let until = right.until in
      let some = begins l in
      absurd (omega (arith, size, from, until, some, apart))
]

-- a prefix of another's first address that ends no later lies in it
pub in_lower : (w h p : Prefix) → LiesIn w p → w.len < p.len → h.address.0 ≡ w.address.0 → h.len ≡ w.len + 1 → past h ≡ middle w → p.address.0 < middle w → LiesIn h p
in_lower w h p inside longer address len end less =
    let from = inside.from in
    let until = stops_middle w p longer less in
    record { from = omega (arith, address, from); until = omega (arith, end, until); longer = omega (arith, len, longer) }

pub in_upper : (w h p : Prefix) → LiesIn w p → w.len < p.len → h.address.0 ≡ middle w → h.len ≡ w.len + 1 → past h ≡ past w → middle w ≤ p.address.0 → LiesIn h p
in_upper w h p inside longer address len end more =
    let until = inside.until in
    record { from = omega (arith, address, more); until = omega (arith, end, until); longer = omega (arith, len, longer) }

pub is_low : (p q : Prefix) → p.len < q.len → p.address.0 ≤ q.address.0 → q.address.0 < middle p → LiesLow p q
is_low p q longer from less = record { from = from; until = stops_middle p q longer less; longer = longer }

pub is_high : (p q : Prefix) → p.len < q.len → middle p ≤ q.address.0 → q.address.0 < past p → LiesHigh p q
is_high p q longer from less = record { from = from; until = stops_past p q (omega (arith, longer)) less; longer = longer }

pub any_in : (p : Prefix) → LiesIn any_prefix p
any_in p =
    let end = in_range p in
    record { from = omega arith; until = omega (arith, end); longer = omega arith }

-- so does each one that lies within another as bits say
pub within_in : (p q : Prefix) → lies_within p q ≡ true → LiesIn q p
within_in p q h =
    let parts = and_parts _ _ h in
    let longer : q.len ≤ p.len = leb-true _ _ parts.0 in
    let there = covered q p.address p.in_range parts.1 in
    record { from = there.0; until = stops_past q p longer there.1; longer = longer }

-- an address that a prefix doesn't cover, and that doesn't come before it, comes after it
pub missed_past : (p : Prefix) (ip : Ip) → p.address.0 ≤ ip.0 → covers p ip ≡ false → past p ≤ ip.0
missed_past p ip from misses = elim (cases_lt ip.0 (past p)) [
  | inl less ↦ absurd (false≢true (sym misses ∙ covers_from p ip from less))
  | inr more ↦ more
]

pub middle_within : (p : Prefix) → middle p ≤ past p
middle_within p = elim (cases_lt p.len 32) [
  | inl less ↦ let sum = two_halves p.len less in omega (arith, sum)
  | inr more ↦
      let short = p.short in
      let same : 32 - p.len ≡ 31 - p.len = omega (arith, short, more) in
      let size = ap (λ n. 2 ^ n) same in
      omega (arith, size)
]
