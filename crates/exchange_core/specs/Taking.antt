-- What a participant is told anew, and the pairs and tags that go with what it was told (this exchange's own rule).
use Rattle.std.specs.Prelude.{◌≡◌, ℕ, Bool, ◌&&◌, not, nat_eq, List, map, filter, slice_set, Option, Some, None}
use Rattle.std.specs.FinMap.{FinMap, empty}
use Rattle.advert_queue.specs.Taken.{first_of, gone_tags, told_by}
use Rattle.events.specs.Forms.{IsWellFormed}
use Rattle.events.specs.Fits.{adverts}
use Rattle.events.specs.Pending.{pending}
use Rattle.events.specs.State.{State, present, told_to}
use Rattle.events.specs.declared.Entry.{Entry}
use Rattle.events.specs.declared.Event.{Event}
use Rattle.events.specs.declared.Event.TheVariants.{Drain, Take}
use Rattle.fast_path.specs.LiveOnly.{registered}
use Rattle.fast_path.specs.Pairs.{Told, is_told, pair_at}
use Rattle.net_types.specs.Keys.{pair_cmp, prefix_cmp}
use Rattle.net_types.specs.Maps.{ordered}
use Rattle.net_types.specs.Sets.{union_over}
use Rattle.net_types.specs.declared.address.Pid.{Pid}
use Rattle.net_types.specs.declared.address.PortNo.{PortNo}
use Rattle.net_types.specs.declared.address.Tag.{Tag}
use Rattle.net_types.specs.declared.prefix.Prefix.{Prefix}
use Rattle.net_types.specs.declared.rule.Pair.{Pair}
use Rattle.prefix_classes.specs.Classes.{members}
use Rattle.registry.specs.Registered.{ports_of}
use Rattle.exchange_core.specs.Changing.{IsSender}
use Rattle.exchange_core.specs.declared.exchange.take.Taking.{Taking}

-- a tag at each of the ports
abbrev pub pairs_at : List PortNo → Tag → List Pair
pairs_at ports t = map (pair_at t) ports

-- each of the tags at each of the ports, in order
abbrev pub all_pairs : List PortNo → List Tag → List Pair
all_pairs ports ts = ordered pair_cmp (union_over (pairs_at ports) ts)

-- no prefix has the tag
abbrev pub has_none : FinMap prefix_cmp Tag → Tag → Bool
has_none m t = nat_eq (members m t) 0

-- no prefix has the tag, and nobody was told it but whoever has this place
abbrev pub is_dead : FinMap prefix_cmp Tag → Told → ℕ → Tag → Bool
is_dead m told at t = has_none m t && not (is_told (slice_set told at empty) t)

-- those of the tags
abbrev pub dead_tags : FinMap prefix_cmp Tag → Told → ℕ → List Tag → List Tag
dead_tags m told at ts = filter (is_dead m told at) ts

-- the prefixes that a participant takes: the first that are pending, at most so many, or all where there is no limit
abbrev pub taken_of : State → Pid → Option ℕ → List Prefix
taken_of s who limit = first_of limit (pending s who)

-- what it was told then
abbrev pub told_after : State → Pid → Option ℕ → FinMap prefix_cmp Entry
told_after s who limit = told_by limit (told_to s who) (present s who) (taken_of s who limit)

-- the tags that a participant was told, and that are neither among these entries nor present for it
abbrev pub gone_for : State → Pid → FinMap prefix_cmp Entry → List Tag
gone_for s who then = gone_tags (told_to s who) then (present s who)

-- the tags that go where a participant takes so many at most, or all
abbrev pub gone_by : State → Pid → Option ℕ → List Tag
gone_by s who limit = gone_for s who (told_after s who limit)

-- By what a participant that takes so many at most, or all, is told, and exactly the pairs and tags that go.
pub record IsTaking (s : State) (who : Pid) (limit : Option ℕ) (taking : Taking) : Type 0 where
  pub adverts : taking.adverts ≡ adverts s who (taken_of s who limit)
  pub drops : taking.drops ≡ all_pairs (ports_of (registered s) who) (gone_by s who limit)
  pub dead : taking.dead ≡ dead_tags s.tag s.told who.0 (gone_by s who limit)

-- the line by which the participant of a name takes so many at most, or all
abbrev pub line_of : List ℕ → Option ℕ → Event
line_of name None = Drain name
line_of name (Some count) = Take name count

-- A line is in place by which the participant takes so many at most, or all.
pub record IsTaker (s : State) (who : Pid) (limit : Option ℕ) : Type 0 where
  pub name : List ℕ
  pub formed : IsWellFormed (line_of name limit)
  pub sender : IsSender s name who
