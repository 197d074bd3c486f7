-- Signatures that tags share, and what is seen of each tag alone.
use Rattle.std.specs.Prelude.{◌≡◌, ℕ, ◌+◌, ◌-◌, ◌^◌, ◌<◌, min, nat_eq, if◌then◌else◌, true, List, [], ◌∷◌, map, length, Option, Some, None}
use Rattle.std.specs.FinMap.Entries.{is_sorted}
use Rattle.net_types.specs.Keys.{tag_cmp}
use Rattle.net_types.specs.Signatures.{trimmed}
use Rattle.net_types.specs.declared.address.Pid.{Pid}
use Rattle.net_types.specs.declared.address.Tag.{Tag}
use Rattle.net_types.specs.declared.route.Part.{Part}
use Rattle.tag_table.specs.Entries.{value_in}
use Rattle.prefix_classes.specs.declared.kept.Holding.{Holding}
use Rattle.prefix_classes.specs.declared.kept.Holding.TheVariants.{At, Own}
use Rattle.prefix_classes.specs.declared.kept.Place.{Place}
use Rattle.prefix_classes.specs.declared.kept.Shared.{Shared}
use Rattle.prefix_classes.specs.declared.members.Kept.{Kept}
use Rattle.prefix_classes.specs.declared.members.Recount.{Recount}
use Rattle.prefix_classes.specs.declared.members.Recount.TheVariants.{More, Less}

-- the signatures that are shared, each in its slot
abbrev pub Slots : Type 0
Slots = List (Option Shared)

abbrev pub shared_sig : Option Shared → List Part
shared_sig None = []
shared_sig (Some s) = s.sig

abbrev pub shared_tags : Option Shared → ℕ
shared_tags None = 0
shared_tags (Some s) = s.tags

-- the signature of a slot
abbrev pub sig_at : Slots → ℕ → List Part
sig_at slots n = shared_sig (value_in slots n)

-- and how many tags share it
abbrev pub tags_at : Slots → ℕ → ℕ
tags_at slots n = shared_tags (value_in slots n)

-- the signature that a tag holds
abbrev pub shown_sig : Slots → Holding → List Part
shown_sig slots (Own sig) = sig
shown_sig slots (At n) = sig_at slots n

-- what is kept of a tag
abbrev pub shown : Slots → Place → Kept
shown slots p = record { sig = shown_sig slots p.held; members = p.members }

abbrev pub shown_items : Slots → List (Tag × Place) → List (Tag × Kept)
shown_items slots es = map (λ (e : Tag × Place). (e.0, shown slots e.1)) es

-- 1 where the slot is the one whose signature a tag holds, and else 0
abbrev pub is_at : ℕ → Holding → ℕ
is_at n (Own sig) = 0
is_at n (At m) = if nat_eq n m then 1 else 0

-- how many of the entries hold the signature of a slot
abbrev pub uses : ℕ → List (Tag × Place) → ℕ
uses n [] = 0
uses n (e ∷ es) = is_at n e.1.held + uses n es

-- a slot without tags has no signature
abbrev pub AreUsed : Slots → Type 0
AreUsed slots = (n : ℕ) → tags_at slots n ≡ 0 → value_in slots n ≡ None

-- the tags rise, each slot counts those that hold its signature, and none keeps one without tags
pub record AreShared (slots : Slots) (es : List (Tag × Place)) : Type 0 where
  pub sorted : is_sorted tag_cmp es ≡ true
  pub counted : (n : ℕ) → tags_at slots n ≡ uses n es
  pub used : AreUsed slots

-- one tag more can be counted in a slot
pub record IsJoinable (slots : Slots) (n : ℕ) : Type 0 where
  pub one : Shared
  pub there : value_in slots n ≡ Some one
  pub few : one.tags + 1 < 2 ^ 64

-- and this signature stands there
pub record IsSignature (slots : Slots) (n : ℕ) (sig : List Part) : Type 0 where
  pub joinable : IsJoinable slots n
  pub is : sig_at slots n ≡ sig

-- the slot has no signature
pub record IsFree (slots : Slots) (n : ℕ) : Type 0 where
  pub within : n < length slots
  pub free : value_in slots n ≡ None

-- one tag more is counted in a slot
pub record AreJoined (before after : Slots) (n : ℕ) : Type 0 where
  pub tags : (m : ℕ) → tags_at after m ≡ tags_at before m + is_at m (At n)
  pub sigs : (m : ℕ) → sig_at after m ≡ sig_at before m
  pub used : AreUsed before → AreUsed after

-- the signature of what is kept
abbrev pub sig_of : Kept → List Part
sig_of k = k.sig

-- a place with a member more or less
abbrev pub recounted_place : Recount → Place → Place
recounted_place More p = record p { members = min (p.members + 1) (2 ^ 64 - 1) }
recounted_place Less p = record p { members = p.members - 1 }

-- what a tag holds with its signature trimmed, where it has that alone
abbrev pub trimmed_held : Pid → List Pid → Holding → Holding
trimmed_held who named (Own sig) = Own (trimmed who named sig)
trimmed_held who named (At n) = At n

abbrev pub trimmed_place : Pid → List Pid → Place → Place
trimmed_place who named p = record p { held = trimmed_held who named p.held }

-- a shared signature trimmed
abbrev pub trimmed_shared : Pid → List Pid → Option Shared → Option Shared
trimmed_shared who named None = None
trimmed_shared who named (Some s) = Some (record s { sig = trimmed who named s.sig })
