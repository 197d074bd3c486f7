-- Which prefixes share a tag (this exchange's own rule).
use Rattle.std.specs.Prelude.{◌≡◌, ◌≤◌, ◌↔◌, true, Some}
use Rattle.std.specs.FinMap.{get}
use Rattle.events.specs.After.{merged}
use Rattle.events.specs.State.{State}
use Rattle.events.specs.Tags.{is_carried}
use Rattle.job_laws.specs.Jobs.{IsSteadyInJob}
use Rattle.net_types.specs.Signatures.{signature}
use Rattle.net_types.specs.declared.address.Tag.{Tag}
use Rattle.net_types.specs.declared.prefix.Prefix.{Prefix}

-- two prefixes have one tag
pub record ShareTag (s : State) (p q : Prefix) : Type 0 where
  pub tag : Tag
  pub first : get s.tag p ≡ Some tag
  pub second : get s.tag q ≡ Some tag

-- at every moment two prefixes that share a tag have equal signatures
abbrev pub SharedTagsTell : Type 0
SharedTagsTell = (s : State) → IsSteadyInJob s → (p q : Prefix) → ShareTag s p q → signature s.routing p ≡ signature s.routing q

-- at the end of a job two carried prefixes share a tag exactly where their signatures are equal
abbrev pub MergedPrefixesShare : Type 0
MergedPrefixesShare =
    (s : State) → IsSteadyInJob s → (p q : Prefix) → is_carried s.routing p ≡ true → is_carried s.routing q ≡ true
    → ShareTag (merged s) p q ↔ (signature s.routing p ≡ signature s.routing q)

-- u is the least tag that a prefix has and for which the signature of t is kept
pub record IsLeastAlike (s : State) (t u : Tag) : Type 0 where
  pub kept : get s.kept u ≡ get s.kept t
  pub prefix : Prefix
  pub tagged : get s.tag prefix ≡ Some u
  pub least : (q : Prefix) (v : Tag) → get s.tag q ≡ Some v → get s.kept v ≡ get s.kept t → u.0 ≤ v.0

-- at the end of a job a prefix gets the least tag for which the signature of its own is kept
abbrev pub LeastTagsStay : Type 0
LeastTagsStay =
    (s : State) → IsSteadyInJob s → (p : Prefix) (t : Tag) → get s.tag p ≡ Some t → (u : Tag) × (get (merged s).tag p ≡ Some u) × IsLeastAlike s t u
