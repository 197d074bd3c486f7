-- The fields of cubes and of actions, and of which octets they are.
use Rattle.std.proofs.Common.{◌≡◌, ℕ, ◌-◌, ◌/◌, ◌%◌, ◌^◌, ◌≤◌, Bool, true, false, cond, ◌&&◌, ◌||◌, not, nat_eq, nat_le, nat_lt, List, [], ◌∷◌, ◌++◌, append-nil, codes, decimal, refl, sym, ap, ◌∙◌, subst, arith}
use Rattle.std.specs.Prelude.{IfSome, Option, Some, None}
use Rattle.std.proofs.lemmas.Bool.Decides.{nat_tests}
use Rattle.std.proofs.lemmas.List.{append_cancel_left}
use Rattle.events.specs.Text.{address_field, address_text, number_field, prefix_field, prefix_text}
use Rattle.net_types.proofs.PrefixLemmas.{prefix_ext}
use Rattle.net_types.specs.Sets.{Each}
use Rattle.net_types.specs.declared.address.Ip.{Ip}
use Rattle.net_types.specs.declared.prefix.Prefix.{Prefix}
use Rattle.text_laws.specs.Widths.{IsAddress, IsNumber}
use Rattle.text_laws.proofs.Alike.{Alike, Over, decimal_tells, over_append, over_decimal, over_more}
use Rattle.text_laws.proofs.Numbers.{addresses, prefixes}

-- ---- octets of fields

-- what stands in a field or a star: no space, no comma, no bracket
abbrev pub is_plain : ℕ → Bool
is_plain c = (nat_le 46 c && not (nat_eq c 93)) || nat_eq c 42

-- no space, and no end of a line
abbrev pub is_dark : ℕ → Bool
is_dark c = nat_lt 32 c

pub plain_digit : (c : ℕ) → 48 ≤ c → c ≤ 57 → is_plain c ≡ true
plain_digit c low high = grind (arith, nat_tests)

pub dark_digit : (c : ℕ) → 48 ≤ c → c ≤ 57 → is_dark c ≡ true
dark_digit c low high = grind (arith, nat_tests)

module _ (test : ℕ → Bool) (digits : (c : ℕ) → 48 ≤ c → c ≤ 57 → test c ≡ true) (dot : test 46 ≡ true) (slash : test 47 ≡ true) where
  over_one : (c : ℕ) → test c ≡ true → Over test (c ∷ [])
  over_one c is = over_more test c [] is refl

  pub address_over : (ip : Ip) → Over test (address_text ip)
  address_over ip =
      let number : (n : ℕ) → Over test (decimal n) = over_decimal test digits in
      over_append test _ _ (over_append test _ _ (over_append test _ _ (over_append test _ _ (over_append test _ _ (over_append test _ _
      (number (ip.0 / 16777216)) (over_one 46 dot)) (number (ip.0 / 65536 % 256))) (over_one 46 dot)) (number (ip.0 / 256 % 256))) (over_one 46 dot)) (number (ip.0 % 256))

  prefix_over : (p : Prefix) → Over test (prefix_text p)
  prefix_over p = over_append test _ _ (over_append test _ _ (address_over p.address) (over_one 47 slash)) (over_decimal test digits p.len)

  -- ---- fields that are there or not

  pub number_over : (name : List ℕ) (o : Option ℕ) → Over test (name ++ codes "=") → Each (Over test) (number_field name o)
  number_over name None word = tt
  number_over name (Some n) word = (over_append test (name ++ codes "=") (decimal n) word (over_decimal test digits n), tt)

  pub address_field_over : (name : List ℕ) (o : Option Ip) → Over test (name ++ codes "=") → Each (Over test) (address_field name o)
  address_field_over name None word = tt
  address_field_over name (Some ip) word = (over_append test (name ++ codes "=") (address_text ip) word (address_over ip), tt)

  pub prefix_field_over : (name : List ℕ) (p : Prefix) → Over test (name ++ codes "=") → Each (Over test) (prefix_field name p)
  prefix_field_over name p word = by (nat_eq p.len 0)
    where
      by : (b : Bool) → Each (Over test) (cond b [] ((name ++ codes "=" ++ prefix_text p) ∷ []))
      by true = tt
      by false = (over_append test (name ++ codes "=") (prefix_text p) word (prefix_over p), tt)

-- the one text of a list
only : (x y : List ℕ) → x ∷ [] ≡ y ∷ [] → x ≡ y
only x y e = cc

some_is : {X : Type 0} (x y : X) → x ≡ y → Some x ≡ Some y
some_is x y e = ap Some e

pub number_told : (name : List ℕ) (o p : Option ℕ) → IfSome o IsNumber → number_field name o ≡ number_field name p → o ≡ p
number_told name None None one e = refl
number_told name None (Some n) one e = absurd (cc)
number_told name (Some m) None one e = absurd (cc)
number_told name (Some m) (Some n) one e =
    some_is m n (decimal_tells m n one (append_cancel_left (name ++ codes "=") (decimal m) (decimal n) (only _ _ e)))

-- texts that agree where nothing follows
pub closed_is : {P : Type 0} {a b : List ℕ} {E : List ℕ → Type 0} → E [] → Alike E P a b → a ≡ b → P
closed_is {a = a} {b = b} nothing one e = (one.is [] [] nothing nothing (append-nil a ∙ e ∙ sym (append-nil b))).0

pub address_told : (name : List ℕ) (o p : Option Ip) → IfSome o IsAddress → address_field name o ≡ address_field name p → o ≡ p
address_told name None None one e = refl
address_told name None (Some n) one e = absurd (cc)
address_told name (Some m) None one e = absurd (cc)
address_told name (Some m) (Some n) one e =
    some_is m n (closed_is refl (addresses m n one) (append_cancel_left (name ++ codes "=") (address_text m) (address_text n) (only _ _ e)))

-- only the prefix of everything has length 0
any_prefix : (p q : Prefix) → p.len ≡ 0 → q.len ≡ 0 → p ≡ q
any_prefix p q one two =
    let zero_of : (x : Prefix) → x.len ≡ 0 → x.address.0 ≡ 0 = λ x e. (let zeros : x.address.0 % 2 ^ (32 - 0) ≡ 0 = subst (λ n. x.address.0 % 2 ^ (32 - n) ≡ 0) e x.host_bits_zero in omega (arith, x.in_range, zeros)) in
    prefix_ext p q (zero_of p one ∙ sym (zero_of q two)) (one ∙ sym two)

pub prefix_told : (name : List ℕ) (p q : Prefix) → prefix_field name p ≡ prefix_field name q → p ≡ q
prefix_told name p q e = by (nat_eq p.len 0) (nat_eq q.len 0) refl refl e
  where
    by : (b c : Bool) → nat_eq p.len 0 ≡ b → nat_eq q.len 0 ≡ c → cond b [] ((name ++ codes "=" ++ prefix_text p) ∷ []) ≡ cond c [] ((name ++ codes "=" ++ prefix_text q) ∷ []) → p ≡ q
    by true true one two e = any_prefix p q (search (arith, nat_tests, one)) (search (arith, nat_tests, two))
    by true false one two e = absurd (cc)
    by false true one two e = absurd (cc)
    by false false one two e = closed_is refl (prefixes p q) (append_cancel_left (name ++ codes "=") (prefix_text p) (prefix_text q) (only _ _ e))
