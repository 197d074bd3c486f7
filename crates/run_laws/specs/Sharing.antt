-- Which prefixes are given a tag, and which share one (this exchange's own rule).
use Rattle.std.specs.Prelude.{◌≡◌, Bool, true, false, List, Some}
use Rattle.std.specs.FinMap.{get}
use Rattle.events.specs.After.{next}
use Rattle.events.specs.Fits.{Fits}
use Rattle.events.specs.Legal.{Legal, state_after}
use Rattle.events.specs.State.{State}
use Rattle.events.specs.Tags.{is_carried, is_live}
use Rattle.events.specs.declared.Event.{Event}
use Rattle.events.specs.declared.Head.TheVariants.{Finished}
use Rattle.events.specs.declared.Reply.{Reply}
use Rattle.events.specs.declared.TagChange.{TagChange}
use Rattle.net_types.specs.Attributes.{same_signature}
use Rattle.net_types.specs.Sets.{Member}
use Rattle.net_types.specs.Signatures.{signature}
use Rattle.net_types.specs.declared.address.Tag.{Tag}
use Rattle.net_types.specs.declared.prefix.Prefix.{Prefix}

-- two prefixes have the same signature
abbrev pub are_alike : State → Prefix → Prefix → Bool
are_alike s p q = same_signature (signature s.routing p) (signature s.routing q)

-- some carried prefix with the signature of p has the tag
pub record HasLike (s : State) (p : Prefix) (t : Tag) : Type 0 where
  pub like : Prefix
  pub carried : is_carried s.routing like ≡ true
  pub tagged : get s.tag like ≡ Some t
  pub alike : are_alike s like p ≡ true

-- A reply gives p the tag: a job's end gives one that a carried prefix with its signature had, and another line one that was
-- not live.
pub record IsGivenTag (s : State) (r : Reply) (p : Prefix) (t : Tag) : Type 0 where
  pub fresh : ¬ r.head ≡ Finished → is_live s t ≡ false
  pub merged : r.head ≡ Finished → HasLike s p t

-- after any legal run this holds of each tag that a reply that fits gives
abbrev pub FreshTagsWereDead : Type 0
FreshTagsWereDead =
    (es : List Event) (rs : List Reply) → Legal es rs → (e : Event) (r : Reply) → Fits (state_after es rs) e r
    → (change : TagChange) (t : Tag) → Member change r.tags → change.tag ≡ Some t → IsGivenTag (state_after es rs) r change.prefix t

-- prefixes with one tag have one signature
abbrev pub TagsTell : State → Type 0
TagsTell s = (p q : Prefix) (t : Tag) → get s.tag p ≡ Some t → get s.tag q ≡ Some t → are_alike s p q ≡ true

-- carried prefixes with one signature have one tag
abbrev pub AlikeShare : State → Type 0
AlikeShare s =
    (p q : Prefix) → is_carried s.routing p ≡ true → is_carried s.routing q ≡ true → are_alike s p q ≡ true
    → (t : Tag) × (get s.tag p ≡ Some t) × (get s.tag q ≡ Some t)

-- After any legal run prefixes that share a tag have the same signature; where a job has just ended, carried prefixes with
-- the same signature share a tag too.
abbrev pub SharedTagsShareSignatures : Type 0
SharedTagsShareSignatures =
    (es : List Event) (rs : List Reply) → Legal es rs
    → TagsTell (state_after es rs)
    × ((e : Event) (r : Reply) → Fits (state_after es rs) e r → r.head ≡ Finished → TagsTell (next (state_after es rs) e r) × AlikeShare (next (state_after es rs) e r))
