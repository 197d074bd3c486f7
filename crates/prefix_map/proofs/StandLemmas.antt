-- Which of two prefixes comes first in the order, by where they stand.
use Rattle.std.proofs.Common.{◌≡◌, ◌≤◌, ◌<◌, inl, inr, sym, ap, subst, ◌∙◌, arith}
use Rattle.std.specs.Cmp.{nat_cmp_is}
use Rattle.std.specs.Ordering.{nat_cmp, ordering_then, ordering_reverse}
use Rattle.std.specs.declared.cmp.Ordering.TheVariants.{Less, Equal, Greater}
use Rattle.std.proofs.lemmas.Bool.{cases_lt}
use Rattle.net_types.proofs.OrderLemmas.{prefixes_total}
use Rattle.net_types.proofs.PrefixLemmas.{prefix_ext}
use Rattle.net_types.specs.Keys.{prefix_cmp}
use Rattle.net_types.specs.declared.prefix.Prefix.{Prefix}
use Rattle.prefix_map.specs.Halves.{past, LiesIn, LiesLow, LiesHigh}
use Rattle.prefix_map.proofs.HalfLemmas.{begins, begins_low, middle_within}

pub before_by_address : (p q : Prefix) → p.address.0 < q.address.0 → prefix_cmp p q ≡ Less
before_by_address p q less = ap (λ r. ordering_then r (nat_cmp p.len q.len)) (sym (nat_cmp_is p.address.0 q.address.0 Less less))

pub before_by_len : (p q : Prefix) → p.address.0 ≤ q.address.0 → p.len < q.len → prefix_cmp p q ≡ Less
before_by_len p q from less = elim (cases_lt p.address.0 q.address.0) [
  | inl below ↦ before_by_address p q below
  | inr more ↦
      ap (λ r. ordering_then r (nat_cmp p.len q.len)) (sym (nat_cmp_is p.address.0 q.address.0 Equal (omega (arith, from, more))))
      ∙ sym (nat_cmp_is p.len q.len Less less)
]

pub turned : (p q : Prefix) → prefix_cmp p q ≡ Less → prefix_cmp q p ≡ Greater
turned p q less = prefixes_total.antisymm q p ∙ ap ordering_reverse less

-- ---- a node's prefix, and those in its halves

pub low_after : (p q : Prefix) → LiesLow p q → prefix_cmp q p ≡ Greater
low_after p q low = turned p q (before_by_len p q low.from low.longer)

pub high_after : (p q : Prefix) → LiesHigh p q → prefix_cmp q p ≡ Greater
high_after p q high =
    let half = begins_low p in
    let from = high.from in
    turned p q (before_by_address p q (omega (arith, half, from)))

pub low_before_high : (p l h : Prefix) → LiesLow p l → LiesHigh p h → prefix_cmp l h ≡ Less
low_before_high p l h low high =
    let some = begins l in
    let until = low.until in
    let from = high.from in
    before_by_address l h (omega (arith, some, until, from))

pub low_in : (p q : Prefix) → LiesLow p q → LiesIn p q
low_in p q low =
    let within = middle_within p in
    let until = low.until in
    let longer = low.longer in
    record { from = low.from; until = omega (arith, within, until); longer = omega (arith, longer) }

pub high_in : (p q : Prefix) → LiesHigh p q → LiesIn p q
high_in p q high =
    let half = begins_low p in
    let from = high.from in
    let longer = high.longer in
    record { from = omega (arith, half, from); until = high.until; longer = omega (arith, longer) }

pub itself_in : (p : Prefix) → LiesIn p p
itself_in p = record { from = omega arith; until = omega arith; longer = omega arith }

-- what lies in a prefix lies in the half that the prefix lies in
pub in_low : (f p q : Prefix) → LiesLow f p → LiesIn p q → LiesLow f q
in_low f p q low inside =
    let a = low.from in
    let b = low.until in
    let c = low.longer in
    let d = inside.from in
    let e = inside.until in
    let g = inside.longer in
    record { from = omega (arith, a, d); until = omega (arith, b, e); longer = omega (arith, c, g) }

pub in_high : (f p q : Prefix) → LiesHigh f p → LiesIn p q → LiesHigh f q
in_high f p q high inside =
    let a = high.from in
    let b = high.until in
    let c = high.longer in
    let d = inside.from in
    let e = inside.until in
    let g = inside.longer in
    record { from = omega (arith, a, d); until = omega (arith, b, e); longer = omega (arith, c, g) }

-- ---- a prefix that stands elsewhere

pub apart_before : (p q key : Prefix) → past key ≤ p.address.0 → LiesIn p q → prefix_cmp key q ≡ Less
apart_before p q key end inside =
    let some = begins key in
    let from = inside.from in
    before_by_address key q (omega (arith, some, from, end))

pub apart_after : (p q key : Prefix) → past p ≤ key.address.0 → LiesIn p q → prefix_cmp key q ≡ Greater
apart_after p q key end inside =
    let some = begins q in
    let until = inside.until in
    turned q key (before_by_address q key (omega (arith, some, until, end)))

pub low_before : (key q : Prefix) → LiesLow key q → prefix_cmp key q ≡ Less
low_before key q low = before_by_len key q low.from low.longer

pub high_before : (key q : Prefix) → LiesHigh key q → prefix_cmp key q ≡ Less
high_before key q high =
    let half = begins_low key in
    let from = high.from in
    before_by_address key q (omega (arith, half, from))

-- a prefix before another comes before all that lie in it
pub before_in : (key p q : Prefix) → prefix_cmp key p ≡ Less → LiesIn p q → prefix_cmp key q ≡ Less
before_in key p q less inside = elim (cases_lt p.address.0 q.address.0) [
  | inl below ↦ prefixes_total.trans key p q less (before_by_address p q below)
  | inr same ↦ elim (cases_lt p.len q.len) [
    | inl longer ↦ prefixes_total.trans key p q less (before_by_len p q inside.from longer)
    | inr alike ↦
        let from = inside.from in
        let longer = inside.longer in
        let one : p ≡ q = prefix_ext p q (omega (arith, from, same)) (omega (arith, longer, alike)) in
        subst (λ x. prefix_cmp key x ≡ Less) one less
  ]
]
