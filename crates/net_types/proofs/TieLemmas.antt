-- What ties in the orders of keys is one thing.
use Rattle.std.proofs.Common.{◌≡◌, ◌⊎◌, ℕ, true, false, ◌&&◌, nat_eq, sym, ap, ◌∙◌, refl, inl, inr}
use Rattle.std.specs.Cmp.{IsTotalOrder, nat_eq_equiv, unsigned_tied}
use Rattle.std.specs.FinMap.{IsAntisymmetric, nat_cmp-IsAntisymmetric}
use Rattle.std.specs.Ordering.{nat_cmp, eq_by_cmp, is_eq, is_lt, ordering_reverse, ordering_then}
use Rattle.std.specs.declared.cmp.Ordering.{Ordering}
use Rattle.std.specs.declared.cmp.Ordering.TheVariants.{Less, Equal, Greater}
use Rattle.std.proofs.lemmas.Bool.{false≢true}
use Rattle.std.proofs.lemmas.Cmp.{tied_itself}
use Rattle.net_types.specs.Keys.{RouteKey, prefix_cmp, tag_cmp, pair_cmp, route_cmp, ip_cmp}
use Rattle.net_types.specs.declared.address.Tag.{Tag}
use Rattle.net_types.specs.declared.rule.Pair.{Pair}
use Rattle.net_types.proofs.PrefixLemmas.{prefix_ext}

pub less : (r : Ordering) → is_lt r ≡ true → r ≡ Less
less Less e = refl
less Equal e = cc
less Greater e = cc

pub tie_Equal : (r : Ordering) → is_eq r ≡ true → r ≡ Equal
tie_Equal Less e = cc
tie_Equal Equal e = refl
tie_Equal Greater e = cc

-- of two that are ordered, only one comes first, and they are not level
pub backward : (r s : Ordering) → r ≡ ordering_reverse s → is_lt r ≡ true → is_lt s ≡ false
backward r Less e h = let k : is_lt r ≡ false = ap is_lt e in absurd (false≢true (sym k ∙ h))
backward r Equal e h = refl
backward r Greater e h = refl

pub not_tied : (r : Ordering) → r ≡ Equal → (r ≡ Less) ⊎ (r ≡ Greater) → ⊥
not_tied r e (inl h) = cc
not_tied r e (inr h) = cc

pub first_tie : (o r : Ordering) → ordering_then o r ≡ Equal → o ≡ Equal
first_tie Less r e = e
first_tie Equal r e = refl
first_tie Greater r e = e

pub second_tie : (o r : Ordering) → ordering_then o r ≡ Equal → r ≡ Equal
second_tie Less r e = cc
second_tie Equal r e = e
second_tie Greater r e = cc

-- one order after another ties where both do
pub then_ties : (o r : Ordering) → is_eq (ordering_then o r) ≡ (is_eq o && is_eq r)
then_ties Less r = refl
then_ties Equal r = refl
then_ties Greater r = refl

pub prefix_cmp-IsAntisymmetric : IsAntisymmetric prefix_cmp
prefix_cmp-IsAntisymmetric p q e =
    prefix_ext p q (nat_cmp-IsAntisymmetric _ _ (first_tie (nat_cmp p.address.0 q.address.0) (nat_cmp p.len q.len) e)) (nat_cmp-IsAntisymmetric _ _ (second_tie (nat_cmp p.address.0 q.address.0) (nat_cmp p.len q.len) e))

pub tag_cmp-IsAntisymmetric : IsAntisymmetric tag_cmp
tag_cmp-IsAntisymmetric t u e = λ i. record { 0 = nat_cmp-IsAntisymmetric t.0 u.0 e i }

pub ip_cmp-IsAntisymmetric : IsAntisymmetric ip_cmp
ip_cmp-IsAntisymmetric a b e = λ i. record { 0 = nat_cmp-IsAntisymmetric a.0 b.0 e i }

pub pair_cmp-IsAntisymmetric : IsAntisymmetric pair_cmp
pair_cmp-IsAntisymmetric a b e = λ i. record {
  port = record { 0 = nat_cmp-IsAntisymmetric a.port.0 b.port.0 (first_tie (nat_cmp a.port.0 b.port.0) (nat_cmp a.tag.0 b.tag.0) e) i };
  tag = record { 0 = nat_cmp-IsAntisymmetric a.tag.0 b.tag.0 (second_tie (nat_cmp a.port.0 b.port.0) (nat_cmp a.tag.0 b.tag.0) e) i };
}

pub route_cmp-IsAntisymmetric : IsAntisymmetric route_cmp
route_cmp-IsAntisymmetric a b e = λ i. record {
  from = record { 0 = nat_cmp-IsAntisymmetric a.from.0 b.from.0 (second_tie (prefix_cmp a.prefix b.prefix) (nat_cmp a.from.0 b.from.0) e) i };
  prefix = prefix_cmp-IsAntisymmetric a.prefix b.prefix (first_tie (prefix_cmp a.prefix b.prefix) (nat_cmp a.from.0 b.from.0) e) i;
}

pub same_from_tie : {K : Type 0} (R : K → K → Ordering) → IsAntisymmetric R → (x y : K) → eq_by_cmp R x y ≡ true → x ≡ y
same_from_tie R same x y e = same x y (tie_Equal (R x y) e)

-- tags that tie are equal
pub tag_tie : (t u : Tag) → eq_by_cmp tag_cmp t u ≡ true → t ≡ u
tag_tie = same_from_tie tag_cmp tag_cmp-IsAntisymmetric

-- pairs that tie are equal
pub pair_tie : (p q : Pair) → eq_by_cmp pair_cmp p q ≡ true → p ≡ q
pair_tie = same_from_tie pair_cmp pair_cmp-IsAntisymmetric

-- a participant's routes for prefixes that tie are for the same one, of the same participant
pub route_tie : (a b : RouteKey) → eq_by_cmp route_cmp a b ≡ true → a ≡ b
route_tie = same_from_tie route_cmp route_cmp-IsAntisymmetric

pub ties_itself : {K : Type 0} {R : K → K → Ordering} → IsTotalOrder R → (x : K) → eq_by_cmp R x x ≡ true
ties_itself o x = ap is_eq (tied_itself o x)

-- numbers tie where they are equal, either way round
pub nat_ties : (x y : ℕ) → eq_by_cmp nat_cmp x y ≡ nat_eq y x
nat_ties x y = unsigned_tied x y ∙ nat_eq_equiv.symm x y
