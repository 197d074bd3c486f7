-- What becomes present of prefixes, and offering it (this exchange's own rule).
use Rattle.std.specs.Prelude.{◌≡◌, ◌⊎◌, ℕ, ◌+◌, ◌<◌, ◌≤◌, nat_eq, not, List, [], ◌∷◌, length, map, filter, slice_get, slice_set, unwrap_or, Option, IfSome, if◌then◌else◌}
use Rattle.std.specs.FinMap.{FinMap, empty, get}
use Rattle.std.specs.Option.{option_and_then, option_map}
use Rattle.advert_queue.specs.Advertised.{Advertised, place_cost}
use Rattle.events.specs.Pending.{with_news}
use Rattle.events.specs.State.{State, present}
use Rattle.events.specs.Tags.{same_tag}
use Rattle.events.specs.declared.Entry.{Entry}
use Rattle.events.specs.declared.TagChange.{TagChange}
use Rattle.fast_path.specs.Grouping.{Known, tag_after}
use Rattle.fast_path.specs.declared.fresh.Fresh.{Fresh}
use Rattle.fast_path.specs.declared.planned.Advert.{Advert}
use Rattle.net_types.specs.Attributes.{same_option}
use Rattle.net_types.specs.Keys.{prefix_cmp}
use Rattle.net_types.specs.Routes.{numbers, pids}
use Rattle.net_types.specs.Sets.{Member, union_over}
use Rattle.net_types.specs.declared.address.Pid.{Pid}
use Rattle.net_types.specs.declared.address.Tag.{Tag}
use Rattle.net_types.specs.declared.prefix.Prefix.{Prefix}
use Rattle.net_types.specs.declared.route.Attrs.{Attrs}
use Rattle.net_types.specs.declared.route.Part.{Part}
use Rattle.registry.specs.Registered.{Registered}
use Rattle.route_server.specs.Proposed.{Proposed}

-- what is present for each participant, in order of declaration
abbrev pub Present : Type 0
Present = List (FinMap prefix_cmp Entry)

-- what is present for each participant of a state
abbrev pub all_present : State → Present
all_present s = map (present s) (pids s.routing)

-- ---- from one state to another

-- one of these offers the prefix to the participant
pub record IsOffered (os : List Advert) (who : Pid) (p : Prefix) : Type 0 where
  pub offer : Advert
  pub stands : Member offer os
  pub to : offer.who ≡ who
  pub of : offer.prefix ≡ p

-- Each offers to a participant what is present in the second state; and what isn't offered is present as it was.
pub record AreOffers (s s1 : State) (os : List Advert) : Type 0 where
  pub each : (o : Advert) → Member o os → (o.who.0 < length s.routing.participants) × (o.entry ≡ get (present s1 o.who) o.prefix)
  pub all : (who : Pid) (p : Prefix) → who.0 < length s.routing.participants → IsOffered os who p ⊎ (get (present s1 who) p ≡ get (present s who) p)

-- ---- offering

-- what is present for a participant; nothing for one that has no place
abbrev pub present_to : Present → Pid → FinMap prefix_cmp Entry
present_to all who = unwrap_or (slice_get all who.0) empty

-- with this offered to a participant, it is present
abbrev pub offered : Present → Advert → Present
offered all o = slice_set all o.who.0 (with_news (present_to all o.who) o.prefix o.entry)

-- with these offered, one after the other
abbrev pub offered_all : Present → List Advert → Present
offered_all all [] = all
offered_all all (o ∷ os) = offered_all (offered all o) os

-- how many places an offer takes, by what was told and what is present
abbrev pub place_taken : Present → Present → Advert → ℕ
place_taken told all o = place_cost (present_to told o.who) (present_to all o.who) o.prefix

-- what the offers to a participant take, each by what is present when its turn comes
abbrev pub all_taken : (Present → Advert → ℕ) → Present → List Advert → ℕ → ℕ
all_taken taken all [] n = 0
all_taken taken all (o ∷ os) n = (if nat_eq o.who.0 n then taken all o else 0) + all_taken taken (offered all o) os n

-- the tags that are offered have numbers below this one
abbrev pub AreBelow : ℕ → List Advert → Type 0
AreBelow n os = (o : Advert) → Member o os → IfSome o.entry (λ (e : Entry). e.tag.0 < n)

-- each participant has room for what is offered to it
pub record HaveRoom (a : Advertised) (os : List Advert) : Type 0 where
  pub places : (n : ℕ) → n < length a.told → all_taken (place_taken a.told) a.present os n ≤ unwrap_or (slice_get a.places n) 0
  pub tags : (n : ℕ) → n < length a.told → AreBelow (unwrap_or (slice_get a.tags n) 0) os

-- each is offered to one of so many participants
abbrev pub AreTo : ℕ → List Advert → Type 0
AreTo count os = (o : Advert) → Member o os → o.who.0 < count

-- ---- what a proposal offers

-- the touched prefixes, each with the tag that it has afterwards
abbrev pub tagged : Known → List Fresh → List Tag → List Prefix → List (List Part) → List TagChange
tagged k fs ts [] sigs = []
tagged k fs ts (p ∷ ps) [] = []
tagged k fs ts (p ∷ ps) (sig ∷ sigs) = record { prefix = p; tag = tag_after k fs ts p sig } ∷ tagged k fs ts ps sigs

-- those of them that had another tag
abbrev pub others : Known → List TagChange → List TagChange
others k cs = filter (λ (c : TagChange). not (same_option same_tag (get k.tag c.prefix) c.tag)) cs

-- a participant's best attributes for the prefix at a place
abbrev pub best_at : Proposed → ℕ → Pid → Option Attrs
best_at p n who = option_and_then (λ o. o) (slice_get (unwrap_or (slice_get p.bests n) []) who.0)

-- the best attributes with a tag, where there are both
abbrev pub entry_of : Option Attrs → Option Tag → Option Entry
entry_of best tag = option_and_then (λ attrs. option_map (λ t. record { attrs = attrs; tag = t }) tag) best

-- a prefix with its tag, offered to a participant with the best attributes that it has
abbrev pub advert_of : (Pid → Option Attrs) → TagChange → Pid → Advert
advert_of best c who = record { who = who; prefix = c.prefix; entry = entry_of (best who) c.tag }

-- prefixes with their tags, from a place of the proposal on, offered to a participant
abbrev pub adverts_to : Proposed → Pid → ℕ → List TagChange → List Advert
adverts_to p who n [] = []
adverts_to p who n (c ∷ cs) = advert_of (best_at p n) c who ∷ adverts_to p who (n + 1) cs

-- all of them, offered to these participants one after the other
abbrev pub adverts_of : Proposed → List Pid → List TagChange → List Advert
adverts_of p whos cs = union_over (λ who. adverts_to p who 0 cs) whos

-- those that are declared, in order
abbrev pub declared_pids : Registered → List Pid
declared_pids names = map (λ n. record { 0 = n }) (numbers 0 (length names.participants))
