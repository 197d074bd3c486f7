-- How much room is made for an offer, before any is made: never less than it takes when its turn comes.
use Rattle.std.specs.Prelude.{ℕ, Bool, true, ◌&&◌, Option, Some, None, if◌then◌else◌}
use Rattle.std.specs.Ordering.{is_lt, nat_cmp, ordering_then}
use Rattle.std.specs.declared.cmp.Ordering.{Ordering}
use Rattle.advert_queue.specs.Telling.{is_pending}
use Rattle.fast_path.specs.Offers.{Present, present_to}
use Rattle.fast_path.specs.declared.planned.Advert.{Advert}
use Rattle.net_types.specs.Keys.{prefix_cmp}
use Rattle.net_types.specs.declared.address.Pid.{Pid}
use Rattle.net_types.specs.declared.prefix.Prefix.{Prefix}

-- by participant, and then by prefix
abbrev pub offer_cmp : Pid × Prefix → Pid × Prefix → Ordering
offer_cmp a b = ordering_then (nat_cmp a.0.0 b.0.0) (prefix_cmp a.1 b.1)

-- a participant with a prefix comes after the greatest of those before it
abbrev pub is_above : Option (Pid × Prefix) → Pid → Prefix → Bool
is_above None who p = true
is_above (Some greatest) who p = is_lt (offer_cmp greatest (who, p))

-- the greatest then
abbrev pub greater : Option (Pid × Prefix) → Pid → Prefix → Option (Pid × Prefix)
greater greatest who p = if is_above greatest who p then Some (who, p) else greatest

-- a place, but where something is pending at the prefix and no offer before can have changed that
abbrev pub place_for : Present → Present → Option (Pid × Prefix) → Advert → ℕ
place_for told all greatest o = if is_above greatest o.who o.prefix && is_pending (present_to told o.who) (present_to all o.who) o.prefix then 0 else 1
