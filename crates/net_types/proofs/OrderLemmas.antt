-- The orders in which things are kept are total, and things that tie are equal.
use Rattle.std.proofs.Common.{◌≡◌, ℕ, ◌∙◌, true, refl}
use Rattle.std.proofs.lemmas.Bool.{eqb-true, false≢true}
use Rattle.std.specs.Cmp.{IsTotalOrder, nat_cmp_total, unsigned_ties}
use Rattle.std.specs.Ordering.{nat_cmp, ordering_then, eq_by_cmp, is_eq}
use Rattle.std.specs.declared.cmp.Ordering.{Ordering}
use Rattle.std.specs.declared.cmp.Ordering.TheVariants.{Less, Equal, Greater}
use Rattle.net_types.proofs.PrefixLemmas.{prefix_ext}
use Rattle.std.proofs.lemmas.Cmp.{on_total, then_total}
use Rattle.net_types.specs.Keys.{prefix_cmp, tag_cmp, pair_cmp, RouteKey, route_cmp, ip_cmp}
use Rattle.net_types.specs.declared.address.Tag.{Tag}
use Rattle.net_types.specs.declared.prefix.Prefix.{Prefix}
use Rattle.net_types.specs.declared.rule.Pair.{Pair}
use Rattle.net_types.specs.declared.address.Ip.{Ip}

pub prefixes_total : IsTotalOrder prefix_cmp
prefixes_total = then_total (on_total (λ (p : Prefix). p.address.0) nat_cmp_total) (on_total (λ p. p.len) nat_cmp_total)

pub pairs_total : IsTotalOrder pair_cmp
pairs_total = then_total (on_total (λ (p : Pair). p.port.0) nat_cmp_total) (on_total (λ p. p.tag.0) nat_cmp_total)

pub routes_total : IsTotalOrder route_cmp
routes_total = then_total (on_total (λ (k : RouteKey). k.prefix) prefixes_total) (on_total (λ k. k.from.0) nat_cmp_total)

pub tags_total : IsTotalOrder tag_cmp
tags_total = on_total (λ (t : Tag). t.0) nat_cmp_total

pub ips_total : IsTotalOrder ip_cmp
ips_total = on_total (λ (ip : Ip). ip.0) nat_cmp_total

tie_parts : (a b : Ordering) → is_eq (ordering_then a b) ≡ true → (is_eq a ≡ true) × (is_eq b ≡ true)
tie_parts Less b e = absurd (false≢true e)
tie_parts Equal b e = (refl, e)
tie_parts Greater b e = absurd (false≢true e)

number_tie : (m n : ℕ) → is_eq (nat_cmp m n) ≡ true → m ≡ n
number_tie m n e = eqb-true m n (unsigned_ties m n ∙ e)

-- prefixes that tie are equal
pub prefix_tie : (p q : Prefix) → eq_by_cmp prefix_cmp p q ≡ true → p ≡ q
prefix_tie p q e =
    let parts = tie_parts (nat_cmp p.address.0 q.address.0) (nat_cmp p.len q.len) e in
    prefix_ext p q (number_tie _ _ parts.0) (number_tie _ _ parts.1)
