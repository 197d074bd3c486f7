-- When the rules of a pair are right and tight, and when a state is sound (this exchange's own rule).
use Rattle.std.specs.Prelude.{◌≡◌, ℕ, ◌≤◌, Bool, ◌&&◌, nat_eq, List, length, map, find, Option, Some, is_some, sum_by}
use Rattle.std.specs.Cmp.Lexicographic.{pointwise}
use Rattle.std.specs.FinMap.{get, values}
use Rattle.std.specs.Option.{option_and_then, option_map}
use Rattle.std.specs.Ordering.{eq_by_cmp}
use Rattle.net_types.specs.Actions.{AreInOrder, action_cmp}
use Rattle.net_types.specs.Answers.{Leaving, Policies, part_answer}
use Rattle.net_types.specs.Cells.{cell_atoms}
use Rattle.net_types.specs.Cubes.{AreTight, lies_within_cube}
use Rattle.net_types.specs.Headers.{IsValid}
use Rattle.net_types.specs.Meets.{IsMeet}
use Rattle.net_types.specs.Sets.{Member, SameMembers, HasNoRepeats}
use Rattle.net_types.specs.Signatures.{signature, port_with}
use Rattle.net_types.specs.declared.address.Pid.{Pid}
use Rattle.net_types.specs.declared.address.PortNo.{PortNo}
use Rattle.net_types.specs.declared.address.Tag.{Tag}
use Rattle.net_types.specs.declared.cube.Cube.{Cube}
use Rattle.net_types.specs.declared.headers.Headers.{Headers}
use Rattle.net_types.specs.declared.prefix.Prefix.{Prefix}
use Rattle.net_types.specs.declared.route.Part.{Part}
use Rattle.net_types.specs.declared.route.PortInfo.{PortInfo}
use Rattle.net_types.specs.declared.rule.Pair.{Pair}
use Rattle.net_types.specs.declared.rule.Rule.{Rule}
use Rattle.net_types.specs.Exports.{route}
use Rattle.net_types.specs.declared.route.Attrs.{Attrs}
use Rattle.events.specs.State.{State, ArePolicies, port_of}
use Rattle.events.specs.Table.{first_rule, done_by}
use Rattle.events.specs.Tags.{is_carried, is_live_pair}

-- the cubes of rules, in their order
abbrev pub cubes_of : List Rule → List Cube
cubes_of rules = map (λ (rule : Rule). rule.cube) rules

-- For all headers at the port some rule has them, and the first one that has them gives this answer. The cubes differ, and
-- each is a meet of the atoms. The actions of each rule stand in order, each once.
pub record IsRightBy (port : PortNo) (answer : Headers → List Leaving) (atoms : List Cube) (rules : List Rule) : Type 0 where
  pub gives : (h : Headers) → IsValid h → h.inport ≡ port → (rule : Rule) × (first_rule rules h ≡ Some rule) × SameMembers (map (done_by h) rule.actions) (answer h)
  pub differ : HasNoRepeats (cubes_of rules)
  pub meets : (c : Cube) → Member c (cubes_of rules) → IsMeet atoms c
  pub ordered : (rule : Rule) → Member rule rules → AreInOrder rule.actions

-- The rules are right for a part: they give what the part gives, with the atoms that the sender and the receivers have. A
-- pair without atoms has exactly one rule, of the cube of everything.
abbrev pub IsRight : Policies → Part → PortNo → List Rule → Type 0
IsRight ps part port rules = IsRightBy port (part_answer ps part) (cell_atoms ps port part) rules

-- no rule's cube lies within an earlier one's
abbrev pub IsTight : List Rule → Type 0
IsTight rules = AreTight (λ (rule : Rule). rule.cube) rules

-- the same cube, and the same actions in order
abbrev pub same_rule : Rule → Rule → Bool
same_rule a b = lies_within_cube a.cube b.cube && lies_within_cube b.cube a.cube && pointwise (eq_by_cmp action_cmp) a.actions b.actions

-- a sender's part of a signature
abbrev pub part_of : List Part → Pid → Option Part
part_of sig who = find (λ (part : Part). nat_eq part.sender.0 who.0) sig

-- the part of the owner of a pair's port in the signature kept for its tag
abbrev pub owners_part : State → Pair → Option Part
owners_part s pair = option_and_then (λ (q : PortInfo). option_and_then (λ sig. part_of sig q.owner) (get s.kept pair.tag)) (port_of s pair.port)

-- how many rules the table has
abbrev pub rule_count : State → ℕ
rule_count s = sum_by (λ (rules : List Rule). length rules) (values s.table)

-- The table has exactly the live pairs, each with right rules, and no more rules than its capacity. Exactly the carried
-- prefixes have a tag, and the signature of each is the one kept for its tag.
pub record IsSound (s : State) : Type 0 where
  pub pairs : (pair : Pair) → is_some (get s.table pair) ≡ is_live_pair s pair
  pub right : (ps : Policies) × ArePolicies s ps × ((pair : Pair) (rules : List Rule) → get s.table pair ≡ Some rules → (part : Part) × (owners_part s pair ≡ Some part) × IsRight ps part pair.port rules)
  pub few : rule_count s ≤ s.capacity
  pub tagged : (p : Prefix) → is_some (get s.tag p) ≡ is_carried s.routing p
  pub kept : (p : Prefix) (t : Tag) → get s.tag p ≡ Some t → get s.kept t ≡ Some (signature s.routing p)

-- each route's NEXT_HOP is at a port of its participant
abbrev pub HopsAreOwn : State → Type 0
HopsAreOwn s =
    (who : Pid) (p : Prefix) (attrs : Attrs) → route s.routing who p ≡ Some attrs
    → option_map (λ (x : PortInfo). x.owner) (port_of s (port_with s.routing.ports attrs.next_hop)) ≡ Some who
