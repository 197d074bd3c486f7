-- What a plan says, and why there is none (this exchange's own rule).
use Rattle.std.specs.Prelude.{◌≡◌, ℕ, ◌+◌, ◌≤◌, ◌<◌, Bool, ◌&&◌, List, not, length, filter, map}
use Rattle.std.specs.FinMap.{FinMap}
use Rattle.block_build.specs.Lent.{AreOf, Lent}
use Rattle.events.specs.After.{without_pairs}
use Rattle.events.specs.Fits.{flows_of, tag_changes}
use Rattle.events.specs.Sound.{rule_count}
use Rattle.events.specs.State.{State, ArePolicies}
use Rattle.events.specs.Tags as events
use Rattle.events.specs.Tags.{carried, groups, is_carried, is_live_pair, live_pairs, retagged}
use Rattle.events.specs.declared.Entry.{Entry}
use Rattle.exchange_laws.specs.Editing.{IsBase}
use Rattle.exchange_laws.specs.Fitting.{AreWithinCells}
use Rattle.exchange_laws.specs.Fresh.{HasEnoughTags}
use Rattle.exchange_laws.specs.Listed.{AreThose, comes, goes}
use Rattle.exchange_laws.specs.Rules.{IsDeclaredAlike, IsRightAt}
use Rattle.fast_path.specs.Committing.{Block, classes_of, with_blocks}
use Rattle.fast_path.specs.Grouping.{known_by}
use Rattle.fast_path.specs.LiveOnly.{AreDead, AreEmptied}
use Rattle.fast_path.specs.Offers.{AreOffers}
use Rattle.fast_path.specs.Planned.{group_kept, is_tag_below}
use Rattle.fast_path.specs.Shown.{AreShown}
use Rattle.fast_path.specs.declared.planned.FastFault.{FastFault}
use Rattle.fast_path.specs.declared.planned.FastFault.TheVariants.{NoNextHop, TableFull, Memory}
use Rattle.fast_path.specs.declared.planned.Plan.{Plan}
use Rattle.block_build.specs.Installed.{Installed}
use Rattle.net_types.specs.Answers.{Policies}
use Rattle.net_types.specs.Exports.{Routing}
use Rattle.net_types.specs.Keys.{prefix_cmp}
use Rattle.net_types.specs.Sets.{IsRising, Member, union_over}
use Rattle.net_types.specs.declared.rule.Pair.{Pair}
use Rattle.next_hop_pool.specs.Free.{Tags}
use Rattle.registry.specs.Registered.{Registered}
use Rattle.prefix_classes.specs.Classes.{Classes}
use Rattle.route_server.specs.Proposed.{IsProposal, Proposed}

-- a live pair is built anew
abbrev pub is_rebuilt_live : State → (Pair → Bool) → Pair → Bool
is_rebuilt_live s is_rebuilt pair = is_live_pair s pair && is_rebuilt pair

-- The parts of an exchange show a state on which a line builds, with the signatures trimmed as the line does; the proposal
-- leads to the routing, the classifiers are those of the policies, and the pairs that are built anew are listed, in order.
pub record IsAsked (s : State) (r : Routing) (is_rebuilt : Pair → Bool) (names : Registered) (classes : Classes) (pool : Tags) (was_told : List (FinMap prefix_cmp Entry)) (switch : Installed) (all : List Lent) (proposal : Proposed) (rebuild : List Pair) : Type 0 where
  pub shown : AreShown s names (known_by proposal.named classes) pool was_told
  pub table : s.table ≡ switch.table
  pub capacity : s.capacity ≡ switch.capacity
  pub base : IsBase s is_rebuilt
  pub alike : IsDeclaredAlike s.routing r
  pub proposes : IsProposal s.routing r proposal
  pub lent : length all ≡ length s.routing.participants
  pub views : (ps : Policies) → ArePolicies s ps → AreOf ps all
  pub rebuilt : AreThose (is_rebuilt_live s is_rebuilt) rebuild

-- some state, routing and test for which the parts are asked
abbrev pub IsAskedFor : Registered → Classes → Tags → List (FinMap prefix_cmp Entry) → Installed → List Lent → Proposed → List Pair → Type 0
IsAskedFor names classes pool was_told switch all proposal rebuild =
    (s : State) × (r : Routing) × (is_rebuilt : Pair → Bool) × IsAsked s r is_rebuilt names classes pool was_told switch all proposal rebuild

-- the pair of a block
abbrev pub pair_of : Block → Pair
pair_of b = b.0

-- the state with the tags of a routing, and the table that the plan leaves
abbrev pub planned : State → Routing → Plan → State
planned s r plan = record (retagged s r) { table = with_blocks (without_pairs s.table plan.drops) plan.blocks.items }

-- The plan has what becomes of tags and rules, the fresh tags with their signatures and members, the pairs that come, the tags
-- that lose their last prefix, those that are live no more, how many prefixes become carried, and what becomes present for each
-- participant. The rules that come are right, and fit the table.
pub record IsPlan (s : State) (r : Routing) (is_rebuilt : Pair → Bool) (plan : Plan) : Type 0 where
  pub tags : plan.tags ≡ tag_changes s.tag (retagged s r).tag
  pub gone : AreThose (goes s (retagged s r) is_rebuilt) plan.drops
  pub new : AreThose (comes s (retagged s r) is_rebuilt) (map pair_of plan.blocks.items)
  pub right : (b : Block) → Member b plan.blocks.items → (ps : Policies) → ArePolicies s ps → IsRightAt ps (retagged s r) b.0 b.1
  pub adds : plan.adds ≡ union_over flows_of plan.blocks.items
  pub fresh : plan.fresh.items ≡ classes_of plan.tags (group_kept s r)
  pub added : plan.added ≡ map pair_of plan.blocks.items
  pub emptied : AreEmptied s (retagged s r) plan.emptied.items
  pub newly : plan.newly ≡ length (filter (λ p. not (is_carried s.routing p)) (carried r))
  pub dead : AreDead s (retagged s r) plan.dead.items
  pub rising : IsRising is_tag_below plan.dead.items
  pub offers : AreOffers s (retagged s r) plan.offers.items
  pub enough : HasEnoughTags s r
  pub fits : rule_count (planned s r plan) ≤ s.capacity

-- More fresh tags are needed than are free; or there are enough, and the rules are more than the table has room for, though
-- no more than the cells of the pairs that are live then.
abbrev pub IsFault : State → Routing → FastFault → Type 0
IsFault s r (NoNextHop need free) = (need ≡ length (groups s r)) × (free ≡ length (events.free_tags s)) × (free < need)
IsFault s r (TableFull rules capacity) = HasEnoughTags s r × AreWithinCells (retagged s r) rules × (capacity ≡ s.capacity) × (capacity < rules)
IsFault s r Memory = Unit {0}

-- how many pairs a line builds
abbrev pub build_count : State → Routing → (Pair → Bool) → ℕ
build_count s r is_rebuilt = length (filter (comes s (retagged s r) is_rebuilt) (live_pairs (retagged s r)))

-- each pair that is built is a step at most, and where tags are missing none is built
pub record IsWithinSteps (s : State) (r : Routing) (is_rebuilt : Pair → Bool) (before after : ℕ) : Type 0 where
  pub most : after ≤ before + build_count s r is_rebuilt
  pub short : length (events.free_tags s) < length (groups s r) → after ≡ before
