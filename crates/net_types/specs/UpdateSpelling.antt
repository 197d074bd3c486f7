-- Which update an UPDATE message spells, and by which fault it fails (RFC 4271 4.3, 6.3).
use Rattle.std.specs.Prelude.{◌≡◌, ℕ, Bool, nat_lt, List, [], ◌∷◌, length, Option, Some, None}
use Rattle.std.specs.Ordering.{is_lt}
use Rattle.net_types.specs.Keys.{prefix_cmp}
use Rattle.net_types.specs.Sets.{IsRising, Member, SameMembers}
use Rattle.net_types.specs.UpdateFormat.{Parts, message}
use Rattle.net_types.specs.UpdateValue.{Said, said, said_path}
use Rattle.net_types.specs.declared.prefix.Prefix.{Prefix}
use Rattle.net_types.specs.declared.route.Attrs.{Attrs}
use Rattle.net_types.specs.declared.route.Unknown.{Unknown}
use Rattle.net_types.specs.declared.update.Fault.{Fault}
use Rattle.net_types.specs.declared.update.Update.{Update}

-- one prefix comes before another: by address, and then by length
abbrev pub is_before : Prefix → Prefix → Bool
is_before p q = is_lt (prefix_cmp p q)

-- one unknown attribute comes before another: by type
abbrev pub is_type_before : Unknown → Unknown → Bool
is_type_before u v = nat_lt u.kind v.kind

-- ps has the members of qs, ascending, each once
pub record IsOrdered (ps qs : List Prefix) : Type 0 where
  pub rising : IsRising is_before ps
  pub same : SameMembers ps qs

-- x stands in the one and not in the other
pub record IsLeft {A : Type 0} (xs ys : List A) (x : A) : Type 0 where
  pub stands : Member x xs
  pub apart : Member x ys → ⊥

-- ps has the members of qs that aren't in rs, ascending, each once
pub record IsOrderedWithout (ps qs rs : List Prefix) : Type 0 where
  pub rising : IsRising is_before ps
  pub onto : (p : Prefix) → Member p ps → IsLeft qs rs p
  pub back : (p : Prefix) → IsLeft qs rs p → Member p ps

-- the attributes of a route are what a message says, its unknown ones ascending by type
pub record AreSaid (s : Said) (a : Attrs) : Type 0 where
  pub origin : s.origin ≡ Some a.origin
  pub path : said_path s ≡ Some a.path
  pub next_hop : s.next_hop ≡ Some a.next_hop
  pub med : a.med ≡ s.med
  pub atomic : a.atomic ≡ s.atomic
  pub aggregator : a.aggregator ≡ s.aggregator
  pub communities : a.communities ≡ s.communities
  pub communities_partial : a.communities_partial ≡ s.communities_partial
  pub rising : IsRising is_type_before a.unknown
  pub same : SameMembers a.unknown s.unknown

-- there are attributes exactly where a prefix is announced
abbrev pub AreAttrs : Said → List Prefix → Option Attrs → Type 0
AreAttrs s [] None = Unit {0}
AreAttrs s [] (Some a) = ⊥
AreAttrs s (p ∷ ps) None = ⊥
AreAttrs s (p ∷ ps) (Some a) = AreSaid s a

-- the update of a message's parts
pub record IsUpdateOf (parts : Parts) (u : Update) : Type 0 where
  pub announced : IsOrdered u.announced parts.announced
  pub withdrawn : IsOrderedWithout u.withdrawn parts.withdrawn parts.announced
  pub attrs : AreAttrs (said parts.attributes) parts.announced u.attrs

-- The octets pass all checks, and the update is the value of their parts.
pub record Spells (b : List ℕ) (u : Update) : Type 0 where
  pub parts : Parts
  pub spells : (message (length b)).Spells b parts
  pub value : IsUpdateOf parts u

-- The fault is that of the first check that the octets fail.
pub record IsFault (b : List ℕ) (fault : Fault) : Type 0 where
  pub fails : (message (length b)).Fails b fault
