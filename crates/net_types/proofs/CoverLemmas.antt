-- The longest key of a map that covers an address, found one length after another.
use Rattle.std.proofs.Common.{◌≡◌, ℕ, ◌+◌, ◌≤◌, true, inl, inr, sym, ap, ◌∙◌, refl, arith}
use Rattle.std.specs.Prelude.{Option, Some, None, is_some}
use Rattle.std.specs.FinMap.{FinMap, get, keys, contains_key-keys}
use Rattle.std.proofs.lemmas.Bool.{false≢true, cases_eq}
use Rattle.net_types.proofs.LongestLemmas.{IsLongest, is_longest, any-member, member-any}
use Rattle.net_types.proofs.PrefixLemmas.{prefix_from_bits, same_bits_sym, same_bits_trans}
use Rattle.net_types.specs.Keys.{prefix_cmp}
use Rattle.net_types.specs.Prefixes.{covers}
use Rattle.net_types.specs.Routes.{longest_of}
use Rattle.net_types.specs.Sets.{Member}
use Rattle.net_types.specs.declared.address.Ip.{Ip}
use Rattle.net_types.specs.declared.prefix.Prefix.{Prefix}

-- two prefixes of one length that cover an address are one
pub cover_one : (p q : Prefix) (ip : Ip) → p.len ≡ q.len → covers p ip ≡ true → covers q ip ≡ true → p ≡ q
cover_one p q ip alike here there =
    prefix_from_bits p q alike (same_bits_trans p.len p.address.0 ip.0 q.address.0 here (rw alike (same_bits_sym q.len q.address.0 ip.0 there)))

module _ {V : Type 0} (m : FinMap prefix_cmp V) where
  key_member : (p : Prefix) (v : V) → get m p ≡ Some v → Member p (keys m)
  key_member p v there = any-member (keys m) p (sym (contains_key-keys m p) ∙ ap is_some there)

  member_key : (p : Prefix) → Member p (keys m) → get m p ≡ None → ⊥
  member_key p at none = false≢true (sym (ap is_some none) ∙ contains_key-keys m p ∙ member-any (keys m) p at)

  -- no key of so many bits or more covers the address
  abbrev pub NoneFrom : Ip → ℕ → Type 0
  NoneFrom ip n = (q : Prefix) → n ≤ q.len → covers q ip ≡ true → get m q ≡ None

  -- one length more
  pub none_from : (ip : Ip) (n : ℕ) (p : Prefix) → p.len ≡ n → covers p ip ≡ true → get m p ≡ None → NoneFrom ip (n + 1) → NoneFrom ip n
  none_from ip n p length here missed longer q more there =
      elim (cases_eq q.len n) [
        | inl same ↦ ap (get m) (cover_one q p ip (same ∙ sym length) there here) ∙ missed
        | inr other ↦ longer q (omega arith) there
      ]

  -- past the greatest length
  pub none_past : (ip : Ip) → NoneFrom ip 33
  none_past ip q more there = let short = q.short in absurd (omega arith)

  pub none_longest : (ip : Ip) → NoneFrom ip 0 → longest_of (keys m) ip ≡ None
  none_longest ip none = of_case (longest_of (keys m) ip) refl (is_longest (keys m) ip)
    where
      of_case : (r : Option Prefix) → longest_of (keys m) ip ≡ r → IsLongest (keys m) ip r → longest_of (keys m) ip ≡ None
      of_case None e is = e
      of_case (Some q) e is = absurd (member_key q is.0 (none q (omega arith) is.1))

  pub first_longest : (ip : Ip) (p : Prefix) (v : V) → get m p ≡ Some v → covers p ip ≡ true → NoneFrom ip (p.len + 1) → longest_of (keys m) ip ≡ Some p
  first_longest ip p v there here none = of_case (longest_of (keys m) ip) refl (is_longest (keys m) ip)
    where
      of_case : (r : Option Prefix) → longest_of (keys m) ip ≡ r → IsLongest (keys m) ip r → longest_of (keys m) ip ≡ Some p
      of_case None e is = absurd (false≢true (sym (is p (key_member p v there)) ∙ here))
      of_case (Some q) e is =
          let above : p.len ≤ q.len = is.2 p (key_member p v there) here in
          elim (cases_eq q.len p.len) [
            | inl same ↦ e ∙ ap Some (cover_one q p ip same is.1 here)
            | inr other ↦ absurd (member_key q is.0 (none q (omega arith) is.1))
          ]
