-- The state in which a prefix was given a tag, what is kept of it under that tag, and whom a frame with that tag reaches (this
-- exchange's own rule).
use Rattle.std.specs.Prelude.{◌≡◌, ℕ, ◌<◌, ◌⊎◌, Bool, ◌&&◌, true, if◌then◌else◌, List, [], ◌∷◌, slice_index, Option, Some, None, MatchOption}
use Rattle.std.specs.FinMap.{get}
use Rattle.std.specs.List.{list_any}
use Rattle.events.specs.After.{next}
use Rattle.events.specs.Forms.{IsWellFormed}
use Rattle.events.specs.Legal.{Legal, state_after}
use Rattle.events.specs.Sound.{part_of}
use Rattle.events.specs.State.{State, first, port_of, told_to}
use Rattle.events.specs.Table.{first_match, tag_at}
use Rattle.events.specs.Tags.{same_tag}
use Rattle.events.specs.declared.Entry.{Entry}
use Rattle.events.specs.declared.Event.{Event}
use Rattle.events.specs.declared.Reply.{Reply}
use Rattle.events.specs.declared.TagChange.{TagChange}
use Rattle.net_types.specs.Answers.{Leaving, is_offered}
use Rattle.net_types.specs.Attributes.{same_option}
use Rattle.net_types.specs.Exports.{exports, same_prefix}
use Rattle.net_types.specs.Sets.{Member}
use Rattle.net_types.specs.declared.address.Pid.{Pid}
use Rattle.net_types.specs.declared.address.Tag.{Tag}
use Rattle.net_types.specs.declared.prefix.Prefix.{Prefix}
use Rattle.net_types.specs.declared.route.Offer.{Offer}
use Rattle.net_types.specs.declared.route.Part.{Part}
use Rattle.net_types.specs.declared.route.PortInfo.{PortInfo}

-- a reply says that the prefix is given the tag
abbrev pub gives : Reply → Prefix → Tag → Bool
gives r p t = list_any (λ (c : TagChange). same_prefix c.prefix p && same_option same_tag c.tag (Some t)) r.tags

-- the state just after the last line whose reply gives the prefix the tag; before these lines it was that one
abbrev pub given_from : Prefix → Tag → Option State → State → List Event → List Reply → Option State
given_from p t last s [] rs = last
given_from p t last s (e ∷ es) [] = last
given_from p t last s (e ∷ es) (r ∷ rs) = given_from p t (if gives r p t then Some (next s e r) else last) (next s e r) es rs

-- the state just after the last line of a run whose reply gives the prefix the tag
abbrev pub given_at : List Event → List Reply → Prefix → Tag → Option State
given_at es rs p t = given_from p t None first es rs

-- In that state each participant that a sender's part offers exported the prefix to it, and the best one is among the offers.
pub record OffersExporters (given : State) (sender : Pid) (p : Prefix) (part : Part) : Type 0 where
  pub offered : is_offered part.offers part.best ≡ true
  pub exporters : (o : Offer) → Member o part.offers → exports given.routing o.exporter sender p ≡ true

-- the prefix has the tag, or the participant was told it of the prefix
abbrev pub IsHeld : State → Pid → Prefix → Tag → Type 0
IsHeld s who p t = (get s.tag p ≡ Some t) ⊎ ((entry : Entry) × (get (told_to s who) p ≡ Some entry) × (entry.tag ≡ t))

-- there is such a state, and what is kept of a sender's part under the tag offers exporters of that state alone
pub record IsGivenIn (given : Option State) (s : State) (who : Pid) (p : Prefix) (t : Tag) : Type 0 where
  pub state : State
  pub is : given ≡ Some state
  pub parts : (sig : List Part) (part : Part) → get s.kept t ≡ Some sig → part_of sig who ≡ Some part → OffersExporters state who p part

-- After any legal run each tag that a prefix has, or that a participant was told of it and may hold though it is stale, was
-- given by some line before. What is kept under the tag offers the participant only exporters of the state just after it.
abbrev pub KeptOffersWereExported : Type 0
KeptOffersWereExported =
    (es : List Event) (rs : List Reply) → Legal es rs → (who : Pid) (p : Prefix) (t : Tag) → IsHeld (state_after es rs) who p t
    → IsGivenIn (given_at es rs p t) (state_after es rs) who p t

-- there is such a state, and each port by which something leaves is one of a participant that exported the prefix to the sender
-- in it
pub record ReachedExporters (given : Option State) (s : State) (sender : Pid) (p : Prefix) (leaving : List Leaving) : Type 0 where
  pub state : State
  pub is : given ≡ Some state
  pub exporters : (l : Leaving) → Member l leaving → MatchOption (port_of s l.port) ⊥ (λ q. exports state.routing q.owner sender p ≡ true)

-- After any legal run of lines that can be written: where the owner of a port was told a tag of a prefix, stale or not, the table
-- lets a frame of octets that comes in at the port for the tag's MAC leave only by ports of exporters of the state just after
-- the last line that gave the prefix the tag.
abbrev pub StaleTagsReachExporters : Type 0
StaleTagsReachExporters =
    (es : List Event) (rs : List Reply) → ((e : Event) → Member e es → IsWellFormed e) → Legal es rs
    → (q : PortInfo) (p : Prefix) (told : Entry) → port_of (state_after es rs) q.number ≡ Some q → get (told_to (state_after es rs) q.owner) p ≡ Some told
    → (frame : List ℕ) → ((k : ℕ) → slice_index frame k < 256) → tag_at frame ≡ Some told.tag
    → ReachedExporters (given_at es rs p told.tag) (state_after es rs) q.owner p (first_match (state_after es rs).table q.number frame)
