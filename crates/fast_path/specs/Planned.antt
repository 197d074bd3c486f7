-- What a plan says: the fresh tags with their signatures, and the tags and pairs that come and go (this exchange's own rule).
use Rattle.std.specs.Prelude.{◌≡◌, Bool, nat_lt, List, length}
use Rattle.events.specs.State.{State}
use Rattle.events.specs.Tags.{free_tags}
use Rattle.net_types.specs.Exports.{Routing}
use Rattle.net_types.specs.declared.address.Tag.{Tag}
use Rattle.next_hop_pool.specs.Free.{Tags}
use Rattle.next_hop_pool.specs.Free as pool
use Rattle.fast_path.specs.LiveOnly.{group_signatures, group_tags}
use Rattle.fast_path.specs.Committing.{Kept, kept_of}

-- the fresh tags with their signatures
abbrev pub group_kept : State → Routing → List Kept
group_kept s r = kept_of (group_tags s r) (group_signatures s r)

-- one tag is a smaller number than another
abbrev pub is_tag_below : Tag → Tag → Bool
is_tag_below t u = nat_lt t.0 u.0

-- the pool has the tags of the state, and the same ones are free
pub record IsPoolOf (s : State) (p : Tags) : Type 0 where
  pub free : pool.free_tags p ≡ free_tags s
  pub size : length p.taken ≡ s.size
  pub base : p.base ≡ s.base
