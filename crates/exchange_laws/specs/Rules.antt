-- The rules after a line that builds rules (this exchange's own rule).
use Rattle.std.specs.Prelude.{◌≡◌, ◌<◌, ◌≤◌, Bool, true, false, ◌||◌, not, List, length, Some, is_some}
use Rattle.std.specs.FinMap.{FinMap, get}
use Rattle.events.specs.Sound.{IsRight, IsSound, owners_part, rule_count}
use Rattle.events.specs.State.{State, ArePolicies}
use Rattle.events.specs.Tags.{is_carried, is_live_pair, retagged}
use Rattle.exchange_laws.specs.Fresh.{HasEnoughTags}
use Rattle.exchange_laws.specs.Retagging.{TagsArePooled}
use Rattle.net_types.specs.Answers.{Policies}
use Rattle.net_types.specs.Exports.{Routing}
use Rattle.net_types.specs.Keys.{pair_cmp}
use Rattle.net_types.specs.Sets.{Member}
use Rattle.net_types.specs.Signatures.{signature}
use Rattle.net_types.specs.declared.address.Tag.{Tag}
use Rattle.net_types.specs.declared.prefix.Prefix.{Prefix}
use Rattle.net_types.specs.declared.route.Part.{Part}
use Rattle.net_types.specs.declared.route.PortInfo.{PortInfo}
use Rattle.net_types.specs.declared.rule.Pair.{Pair}
use Rattle.net_types.specs.declared.rule.Rule.{Rule}

-- each port is a declared participant's
abbrev pub OwnersAreDeclared : Routing → Type 0
OwnersAreDeclared r = (q : PortInfo) → Member q r.ports → q.owner.0 < length r.participants

-- the same participants and ports are declared
pub record IsDeclaredAlike (r r1 : Routing) : Type 0 where
  pub participants : r1.participants ≡ r.participants
  pub ports : r1.ports ≡ r.ports

-- Whatever its rules are: the table has exactly the live pairs, the owner of each one's port has a part in the signature kept
-- for its tag, exactly the carried prefixes have a tag, and the signature of each is the one kept for its tag.
pub record IsTagged (s : State) : Type 0 where
  pub pairs : (pair : Pair) → is_some (get s.table pair) ≡ is_live_pair s pair
  pub parts : (pair : Pair) → is_live_pair s pair ≡ true → is_some (owners_part s pair) ≡ true
  pub tagged : (p : Prefix) → is_some (get s.tag p) ≡ is_carried s.routing p
  pub kept : (p : Prefix) (t : Tag) → get s.tag p ≡ Some t → get s.kept t ≡ Some (signature s.routing p)

-- the rules of a pair are right for the part of its port's owner
abbrev pub IsRightAt : Policies → State → Pair → List Rule → Type 0
IsRightAt ps s pair rules = (part : Part) × (owners_part s pair ≡ Some part) × IsRight ps part pair.port rules

-- the texts are read as policies, and but for the pairs that are built anew the rules of each pair are right by them
pub record AreRightBut (s : State) (is_rebuilt : Pair → Bool) : Type 0 where
  pub policies : Policies
  pub read : ArePolicies s policies
  pub right : (pair : Pair) (rules : List Rule) → is_rebuilt pair ≡ false → get s.table pair ≡ Some rules → IsRightAt policies s pair rules

-- what a change of routes starts from
pub record IsChange (s : State) (r : Routing) : Type 0 where
  pub tagged : IsTagged s
  pub pooled : TagsArePooled s
  pub owners : OwnersAreDeclared s.routing
  pub alike : IsDeclaredAlike s.routing r
  pub enough : HasEnoughTags s r

-- a pair that wasn't live, or that is built anew
abbrev pub is_new : State → (Pair → Bool) → Pair → Bool
is_new s is_rebuilt pair = not (is_live_pair s pair) || is_rebuilt pair

-- A table for a state after s: it has exactly the live pairs, those that aren't new with their rules, and the new ones with
-- rules that are right for the part of their port's owner.
pub record IsTableAfter (s s1 : State) (is_rebuilt : Pair → Bool) (table : FinMap pair_cmp (List Rule)) : Type 0 where
  pub pairs : (pair : Pair) → is_some (get table pair) ≡ is_live_pair s1 pair
  pub old : (pair : Pair) (rules : List Rule) → is_new s is_rebuilt pair ≡ false → get table pair ≡ Some rules → get s.table pair ≡ Some rules
  pub new : (ps : Policies) → ArePolicies s1 ps → (pair : Pair) (rules : List Rule) → is_new s is_rebuilt pair ≡ true → get table pair ≡ Some rules → IsRightAt ps s1 pair rules

-- with any such table whose rules fit, the state is sound, whatever the policies
abbrev pub TablesStaySound : Type 0
TablesStaySound =
    (s : State) (r : Routing) (is_rebuilt : Pair → Bool) (table : FinMap pair_cmp (List Rule)) → IsChange s r → AreRightBut s is_rebuilt
    → IsTableAfter s (retagged s r) is_rebuilt table → rule_count (record (retagged s r) { table = table }) ≤ s.capacity → IsSound (record (retagged s r) { table = table })

-- the owner of each live pair's port has a part in the signature kept for its tag
abbrev pub LivePairsHaveParts : Type 0
LivePairsHaveParts =
    (s : State) (r : Routing) → IsChange s r → (pair : Pair) → is_live_pair (retagged s r) pair ≡ true → is_some (owners_part (retagged s r) pair) ≡ true

-- and where the pair was live, it is the part that it had
abbrev pub LivePairsKeepParts : Type 0
LivePairsKeepParts =
    (s : State) (r : Routing) → IsChange s r → (pair : Pair) → is_live_pair s pair ≡ true → is_live_pair (retagged s r) pair ≡ true
    → owners_part (retagged s r) pair ≡ owners_part s pair
