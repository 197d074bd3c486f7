-- Addresses, prefixes and octets are told by their texts.
use Rattle.std.proofs.Common.{◌≡◌, ℕ, ◌/◌, ◌%◌, ◌^◌, ◌<◌, true, List, [], ◌∷◌, codes, refl, ap, ap₂, arith}
use Rattle.std.proofs.lemmas.Bool.Decides.{nat_tests}
use Rattle.events.specs.Text.{address_text, hex_text, hex_text_digit, pair_text, prefix_text}
use Rattle.net_types.proofs.PrefixLemmas.{prefix_ext}
use Rattle.net_types.specs.declared.address.Ip.{Ip}
use Rattle.net_types.specs.declared.prefix.Prefix.{Prefix}
use Rattle.net_types.specs.declared.rule.Pair.{Pair}
use Rattle.text_laws.specs.Widths.{IsPair}
use Rattle.text_laws.proofs.Alike.{Alike, Ends, Over, Stops, closed, decimals, gives, is_inside, next, over_more, spans}

-- ---- addresses and prefixes

-- the four numbers of an address
numbers_of : (x y : ℕ) → x / 16777216 ≡ y / 16777216 → x / 65536 % 256 ≡ y / 65536 % 256 → x / 256 % 256 ≡ y / 256 % 256 → x % 256 ≡ y % 256 → x ≡ y
numbers_of x y a b c d = omega arith

pub ip_is : (x y : Ip) → x.0 ≡ y.0 → x ≡ y
ip_is x y e = ap (λ (n : ℕ). let ip : Ip = record { 0 = n } in ip) e

pub addresses : (x y : Ip) → x.0 < 2 ^ 32 → Alike Stops (x ≡ y) (address_text x) (address_text y)
addresses x y low =
    let first = closed (codes ".") (λ s. refl) (decimals (x.0 / 16777216) (y.0 / 16777216) (omega arith)) in
    let second = closed (codes ".") (λ s. refl) (next first (decimals (x.0 / 65536 % 256) (y.0 / 65536 % 256) (omega arith))) in
    let third = closed (codes ".") (λ s. refl) (next second (decimals (x.0 / 256 % 256) (y.0 / 256 % 256) (omega arith))) in
    gives (λ is. ip_is x y (numbers_of x.0 y.0 is.0.0.0 is.0.0.1 is.0.1 is.1)) (next third (decimals (x.0 % 256) (y.0 % 256) (omega arith)))

pub prefixes : (p q : Prefix) → Alike Stops (p ≡ q) (prefix_text p) (prefix_text q)
prefixes p q =
    gives (λ is. prefix_ext p q (ap (λ (ip : Ip). ip.0) is.0) is.1)
    (next (closed (codes "/") (λ s. refl) (addresses p.address q.address p.in_range)) (decimals p.len q.len (omega (arith, p.short))))

pub pair_is : (p q : Pair) → p.port.0 ≡ q.port.0 → p.tag.0 ≡ q.tag.0 → p ≡ q
pair_is p q e f = ap₂ (λ (m n : ℕ). let x : Pair = record { port = record { 0 = m }; tag = record { 0 = n } } in x) e f

pub pairs : (p q : Pair) → IsPair p → Alike Stops (p ≡ q) (pair_text p) (pair_text q)
pairs p q one = gives (λ is. pair_is p q is.0 is.1) (next (closed (codes " ") (λ s. refl) (decimals p.port.0 q.port.0 one.port)) (decimals p.tag.0 q.tag.0 one.tag))

-- ---- hexadecimal digits

-- whatever the number is, its digit is no end of a line
hex_digit_is : (n : ℕ) → is_inside (hex_text_digit n) ≡ true
hex_digit_is n = grind (arith, nat_tests)

digit_tells : (m n : ℕ) → hex_text_digit m ≡ hex_text_digit n → m ≡ n
digit_tells m n e = grind (arith, nat_tests)

octet_tells : (m n : ℕ) → m / 16 ≡ n / 16 → m % 16 ≡ n % 16 → m ≡ n
octet_tells m n a b = omega arith

hex_over : (octets : List ℕ) → Over is_inside (hex_text octets)
hex_over [] = refl
hex_over (b ∷ bs) =
    over_more is_inside (hex_text_digit (b / 16)) (hex_text_digit (b % 16) ∷ hex_text bs) (hex_digit_is (b / 16))
    (over_more is_inside (hex_text_digit (b % 16)) (hex_text bs) (hex_digit_is (b % 16)) (hex_over bs))

hex_tells : (xs ys : List ℕ) → hex_text xs ≡ hex_text ys → xs ≡ ys
hex_tells [] [] e = refl
hex_tells [] (y ∷ ys) e = absurd (cc)
hex_tells (x ∷ xs) [] e = absurd (cc)
hex_tells (x ∷ xs) (y ∷ ys) e =
    let high : hex_text_digit (x / 16) ≡ hex_text_digit (y / 16) = cc in
    let low : hex_text_digit (x % 16) ≡ hex_text_digit (y % 16) = cc in
    let rest : hex_text xs ≡ hex_text ys = cc in
    let one : x ≡ y = octet_tells x y (digit_tells (x / 16) (y / 16) high) (digit_tells (x % 16) (y % 16) low) in
    let more : xs ≡ ys = hex_tells xs ys rest in
    cc

pub octets : (xs ys : List ℕ) → Alike Ends (xs ≡ ys) (hex_text xs) (hex_text ys)
octets xs ys = record {
  is = λ s t ends stops e.
      let is = spans is_inside (hex_text xs) (hex_text ys) s t (hex_over xs) (hex_over ys) ends stops e in
      (hex_tells xs ys is.0, is.1);
}
