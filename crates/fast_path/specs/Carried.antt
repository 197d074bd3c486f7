-- What a plan leads to, once it is carried out (this exchange's own rule).
use Rattle.std.specs.Prelude.{◌≡◌, ◌≤◌, Bool, true, false, length}
use Rattle.events.specs.After.{next, without_pairs}
use Rattle.events.specs.Fits.{Fits, bare}
use Rattle.events.specs.State.{State}
use Rattle.events.specs.declared.Event.{Event}
use Rattle.events.specs.declared.Head.TheVariants.{Fine}
use Rattle.events.specs.declared.Reply.{Reply}
use Rattle.exchange_laws.specs.Editing.{IsBase, IsEdit}
use Rattle.exchange_laws.specs.Rules.{IsDeclaredAlike}
use Rattle.fast_path.specs.Committing.{CanCommit, HaveTagsBelow, kept_with, kept_without, marked_all, signed, tags_of, tags_with, with_blocks}
use Rattle.fast_path.specs.Grouping.{known_by}
use Rattle.fast_path.specs.Offers.{AreTo, HaveRoom, all_present, offered_all}
use Rattle.fast_path.specs.Planned.{IsPoolOf}
use Rattle.fast_path.specs.Plans.{IsPlan, planned}
use Rattle.fast_path.specs.declared.planned.Plan.{Plan}
use Rattle.block_build.specs.Installed.{Installed}
use Rattle.net_types.specs.Exports.{Routing}
use Rattle.net_types.specs.declared.rule.Pair.{Pair}
use Rattle.next_hop_pool.specs.Free.{Tags}
use Rattle.prefix_classes.specs.Classes.{Classes}
use Rattle.advert_queue.specs.Advertised.{Advertised}

-- the plan is one for a state on which a line builds
pub record IsPlanned (s : State) (r : Routing) (is_rebuilt : Pair → Bool) (plan : Plan) : Type 0 where
  pub base : IsBase s is_rebuilt
  pub alike : IsDeclaredAlike s.routing r
  pub planned : IsPlan s r is_rebuilt plan

-- the classes, trimmed as the plan does, the pool, the table and the adverts have the tags, the signatures, the free tags, the
-- rules, and what was told and is present, of the state
pub record ArePartsOf (s : State) (plan : Plan) (classes : Classes) (p : Tags) (switch : Installed) (adverts : Advertised) : Type 0 where
  pub tag : s.tag ≡ classes.tag
  pub kept : s.kept ≡ (known_by plan.named classes).kept
  pub pool : IsPoolOf s p
  pub table : s.table ≡ switch.table
  pub capacity : s.capacity ≡ switch.capacity
  pub told : s.told ≡ adverts.told
  pub present : all_present s ≡ adverts.present

-- the classes, the table and the adverts have room for all that the plan puts in and offers
pub record HasRoomFor (plan : Plan) (classes : Classes) (switch : Installed) (adverts : Advertised) : Type 0 where
  pub prefixes : length plan.tags ≤ classes.prefixes
  pub tags : HaveTagsBelow classes.tags plan.fresh.items
  pub pairs : length plan.blocks.items ≤ switch.room
  pub offers : HaveRoom adverts plan.offers.items

-- what the plan makes of the parts is what a state has
pub record LeadsTo (s : State) (plan : Plan) (classes : Classes) (p : Tags) (switch : Installed) (adverts : Advertised) : Type 0 where
  pub tag : tags_with classes.tag plan.tags ≡ s.tag
  pub kept : kept_without (kept_with (known_by plan.named classes).kept (signed plan.fresh.items)) plan.dead.items ≡ s.kept
  pub pool : IsPoolOf s (marked_all (marked_all p (tags_of (signed plan.fresh.items)) true) plan.dead.items false)
  pub table : with_blocks (without_pairs switch.table plan.drops) plan.blocks.items ≡ s.table
  pub told : adverts.told ≡ s.told
  pub present : offered_all adverts.present plan.offers.items ≡ all_present s

-- the reply that says what the plan says
abbrev pub plan_reply : Plan → Reply
plan_reply plan = record (bare Fine) { tags = plan.tags; drops = plan.drops; adds = plan.adds }

-- a plan's offers are to participants of the state, for which there can be room in the adverts
abbrev pub OffersAreKnown : Type 0
OffersAreKnown = (s : State) (r : Routing) (is_rebuilt : Pair → Bool) (plan : Plan) → IsPlanned s r is_rebuilt plan → AreTo (length s.told) plan.offers.items

-- a plan can be committed to parts of the state that have room for it
abbrev pub PlansCanBeCommitted : Type 0
PlansCanBeCommitted =
    (s : State) (r : Routing) (is_rebuilt : Pair → Bool) (plan : Plan) (classes : Classes) (pool : Tags) (switch : Installed) (adverts : Advertised)
    → IsPlanned s r is_rebuilt plan → ArePartsOf s plan classes pool switch adverts → HasRoomFor plan classes switch adverts → CanCommit plan classes pool switch adverts

-- committed, it leads to the state with the new tags and their rules
abbrev pub PlansLeadOn : Type 0
PlansLeadOn =
    (s : State) (r : Routing) (is_rebuilt : Pair → Bool) (plan : Plan) (classes : Classes) (pool : Tags) (switch : Installed) (adverts : Advertised)
    → IsPlanned s r is_rebuilt plan → ArePartsOf s plan classes pool switch adverts → LeadsTo (planned s r plan) plan classes pool switch adverts

-- a line that builds so leads to the same state, and the reply that says what the plan says fits it
abbrev pub PlansFitLines : Type 0
PlansFitLines =
    (s : State) (e : Event) (s0 : State) (r : Routing) (is_rebuilt : Pair → Bool) (plan : Plan)
    → IsPlanned s0 r is_rebuilt plan → IsEdit s e s0 r is_rebuilt → (next s e (plan_reply plan) ≡ planned s0 r plan) × Fits s e (plan_reply plan)
