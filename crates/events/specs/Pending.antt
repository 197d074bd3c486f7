-- What is pending for a participant: what it was told and what is present for it differ (this exchange's own rule).
use Rattle.std.specs.Prelude.{Bool, ◌&&◌, not, List, [], ◌∷◌, ◌++◌, filter, Option, Some, None}
use Rattle.std.specs.FinMap.{FinMap, get, insert, keys, remove}
use Rattle.net_types.specs.Attributes.{same_attrs, same_option}
use Rattle.net_types.specs.Keys.{prefix_cmp}
use Rattle.net_types.specs.Maps.{ordered}
use Rattle.net_types.specs.declared.address.Pid.{Pid}
use Rattle.net_types.specs.declared.prefix.Prefix.{Prefix}
use Rattle.events.specs.State.{State, Entry, present, told_to}
use Rattle.events.specs.Tags.{same_tag}

-- the same tag and the same attributes
abbrev pub same_entry : Entry → Entry → Bool
same_entry a b = same_tag a.tag b.tag && same_attrs a.attrs b.attrs

-- the prefixes at which what was told and what is present differ, in order
abbrev pub pending : State → Pid → List Prefix
pending s who = filter (λ p. not (same_option same_entry (get (told_to s who) p) (get (present s who) p))) (ordered prefix_cmp (keys (told_to s who) ++ keys (present s who)))

-- what is present of a prefix is told: an entry, or that there is none any more
abbrev pub with_news : FinMap prefix_cmp Entry → Prefix → Option Entry → FinMap prefix_cmp Entry
with_news told p (Some entry) = insert told p entry
with_news told p None = remove told p

-- the same of each of these prefixes
abbrev pub with_all_news : FinMap prefix_cmp Entry → FinMap prefix_cmp Entry → List Prefix → FinMap prefix_cmp Entry
with_all_news known told [] = told
with_all_news known told (p ∷ ps) = with_all_news known (with_news told p (get known p)) ps
