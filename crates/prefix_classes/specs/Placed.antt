-- How a grouping finds the least tag of a signature: the signatures in an order, each with the first of its tags.
use Rattle.std.specs.Prelude.{◌≡◌, ◌≤◌, List, [], ◌∷◌, Option, Some, None, if◌then◌else◌}
use Rattle.std.specs.Cmp.Lexicographic.{slice_cmp}
use Rattle.std.specs.FinMap.{FinMap, get}
use Rattle.std.specs.FinMap.Entries.{find}
use Rattle.std.specs.Ordering.{bool_cmp, eq_by_cmp, nat_cmp, on, then_cmp}
use Rattle.std.specs.declared.cmp.Ordering.{Ordering}
use Rattle.net_types.specs.Keys.{tag_cmp}
use Rattle.net_types.specs.declared.address.Tag.{Tag}
use Rattle.net_types.specs.declared.route.Offer.{Offer}
use Rattle.net_types.specs.declared.route.Part.{Part}

-- offers by exporter, then by port, and then those that are discarded last
abbrev pub offer_cmp : Offer → Offer → Ordering
offer_cmp = then_cmp (on (λ o. o.exporter.0) nat_cmp) (then_cmp (on (λ o. o.port.0) nat_cmp) (on (λ o. o.hole) bool_cmp))

-- parts by sender, then by best participant, and then by the offers in order
abbrev pub part_cmp : Part → Part → Ordering
part_cmp = then_cmp (on (λ q. q.sender.0) nat_cmp) (then_cmp (on (λ q. q.best.0) nat_cmp) (on (λ q. q.offers) (slice_cmp offer_cmp)))

-- signatures by the parts in order
abbrev pub sig_cmp : List Part → List Part → Ordering
sig_cmp = slice_cmp part_cmp

-- the first of the tags with a signature
abbrev pub first_with : List Part → List (Tag × List Part) → Option Tag
first_with sig [] = None
first_with sig (e ∷ es) = if eq_by_cmp sig_cmp sig e.1 then Some e.0 else first_with sig es

-- each signature of these tags is found with the first of its tags
abbrev pub AreFirsts : List (Tag × List Part) → List (List Part × Tag) → Type 0
AreFirsts tags firsts = (sig : List Part) → find sig_cmp sig firsts ≡ first_with sig tags

-- the least of the tags that a grouping has with the signature of one of them
pub record IsLeastBeside (grouping : FinMap tag_cmp (List Part)) (of t : Tag) : Type 0 where
  pub same : get grouping t ≡ get grouping of
  pub least : (u : Tag) → get grouping u ≡ get grouping of → t.0 ≤ u.0
