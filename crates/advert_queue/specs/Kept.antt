-- What is kept of one participant.
use Rattle.std.specs.Prelude.{ℕ, ◌+◌, ◌≤◌, ◌<◌, ◌^◌, IsTrue, List, map, Option, length}
use Rattle.std.specs.FinMap.{FinMap, entries}
use Rattle.std.specs.FinMap.Entries.{is_sorted}
use Rattle.events.specs.declared.Entry.{Entry}
use Rattle.net_types.specs.Keys.{prefix_cmp}
use Rattle.net_types.specs.declared.prefix.Prefix.{Prefix}
use Rattle.ordered_map.specs.Held.{Held}
use Rattle.prefix_map.specs.Held as prefixes
use Rattle.tag_table.specs.Held as table
use Rattle.advert_queue.specs.Advertised.{Advertised}
use Rattle.advert_queue.specs.Changes.{AreNews, changed}
use Rattle.advert_queue.specs.Counts.{AreCounts, by_side, uses}
use Rattle.advert_queue.specs.declared.counts.Uses.{Uses}

-- what a participant was told, what is present for it, for how many offers of new prefixes there is room, and below which number
-- the tags lie of which there is room for offers
pub record Queued : Type 0 where
  pub told : FinMap prefix_cmp Entry
  pub present : FinMap prefix_cmp Entry
  pub places : ℕ
  pub tags : ℕ

-- what the participants are seen as
abbrev pub advertised_by : List Queued → Advertised
advertised_by qs =
    record {
      told = map (λ (q : Queued). q.told) qs;
      present = map (λ (q : Queued). q.present) qs;
      places = map (λ (q : Queued). q.places) qs;
      tags = map (λ (q : Queued). q.tags) qs;
    }

-- The news are in order and are news, the tags of what was told and of what is present are counted, and there is room to
-- tell all that is pending and as many prefixes more.
pub record IsTellable (told : prefixes.Held Entry) (news : Held Prefix (Option Entry)) (tags : table.Held Uses) (more : ℕ) : Type 0 where
  pub rising : IsTrue (is_sorted prefix_cmp news.items)
  pub differ : AreNews told.map news.items
  pub counts : AreCounts tags.items (by_side (uses told.map) (uses (changed told.map news.items)))
  pub told_room : more + length news.items ≤ told.room
  pub fits : length (entries told.map) + length news.items + more + 1 < 2 ^ 64

-- And there is room for so many prefixes among the news.
pub record IsKept (told : prefixes.Held Entry) (news : Held Prefix (Option Entry)) (tags : table.Held Uses) (places : ℕ) : Type 0 where
  pub tellable : IsTellable told news tags places
  pub news_room : places ≤ news.room
