-- What the parts of an exchange show of its state.
use Rattle.std.specs.Prelude.{◌≡◌, List}
use Rattle.std.specs.FinMap.{FinMap}
use Rattle.events.specs.State.{State}
use Rattle.events.specs.Tags as events
use Rattle.events.specs.declared.Entry.{Entry}
use Rattle.fast_path.specs.Grouping.{Known}
use Rattle.net_types.specs.Keys.{prefix_cmp}
use Rattle.next_hop_pool.specs.Free.{Tags, free_tags}
use Rattle.registry.specs.Registered.{Registered}

-- they have what is declared, the tags, the signatures kept, what each participant was told, and which tags are free
pub record AreShown (s : State) (names : Registered) (known : Known) (pool : Tags) (was_told : List (FinMap prefix_cmp Entry)) : Type 0 where
  pub participants : s.routing.participants ≡ names.participants
  pub ports : s.routing.ports ≡ names.ports
  pub tag : s.tag ≡ known.tag
  pub kept : s.kept ≡ known.kept
  pub told : s.told ≡ was_told
  pub free : events.free_tags s ≡ free_tags pool
