-- The tags and the kept signatures after a line that changes the routes (this exchange's own rule).
use Rattle.std.specs.Prelude.{◌≡◌, true, Some, is_some}
use Rattle.std.specs.FinMap.{get}
use Rattle.events.specs.State.{State}
use Rattle.events.specs.Tags.{is_carried, is_live, retagged, tags}
use Rattle.exchange_laws.specs.Fresh.{HasEnoughTags}
use Rattle.net_types.specs.Exports.{Routing}
use Rattle.net_types.specs.Sets.{Member}
use Rattle.net_types.specs.Signatures.{signature}
use Rattle.net_types.specs.declared.address.Tag.{Tag}
use Rattle.net_types.specs.declared.prefix.Prefix.{Prefix}

-- each live tag is one of the pool's
abbrev pub TagsArePooled : State → Type 0
TagsArePooled s = (t : Tag) → is_live s t ≡ true → Member t (tags s)

-- each tag that is kept is live
abbrev pub KeptAreLive : State → Type 0
KeptAreLive s = (t : Tag) → is_some (get s.kept t) ≡ true → is_live s t ≡ true

-- each live tag is kept
abbrev pub LiveAreKept : State → Type 0
LiveAreKept s = (t : Tag) → is_live s t ≡ true → is_some (get s.kept t) ≡ true

-- exactly the carried prefixes have a tag
abbrev pub CarriedHaveTags : Type 0
CarriedHaveTags = (s : State) (r : Routing) → HasEnoughTags s r → (p : Prefix) → is_some (get (retagged s r).tag p) ≡ is_carried r p

-- the signature of each is the one kept for its tag
abbrev pub SignaturesAreKept : Type 0
SignaturesAreKept =
    (s : State) (r : Routing) → TagsArePooled s → (p : Prefix) (t : Tag) → get (retagged s r).tag p ≡ Some t → get (retagged s r).kept t ≡ Some (signature r p)

-- a tag that stays live keeps its signature
abbrev pub LiveTagsStay : Type 0
LiveTagsStay =
    (s : State) (r : Routing) → TagsArePooled s → (t : Tag) → is_live s t ≡ true → is_live (retagged s r) t ≡ true → get (retagged s r).kept t ≡ get s.kept t

-- the live tags are still the pool's
abbrev pub TagsStayPooled : Type 0
TagsStayPooled = (s : State) (r : Routing) → TagsArePooled s → TagsArePooled (retagged s r)

-- and each tag that is kept is live
abbrev pub KeptStayLive : Type 0
KeptStayLive = (s : State) (r : Routing) → TagsArePooled s → KeptAreLive (retagged s r)

-- and each live tag is kept
abbrev pub LiveStayKept : Type 0
LiveStayKept = (s : State) (r : Routing) → TagsArePooled s → LiveAreKept s → LiveAreKept (retagged s r)
