-- Rules without those that lie within an earlier one (this exchange's own rule).
use Rattle.std.specs.Prelude.{◌≡◌, ◌≤◌, Bool, false, ◌||◌, List, [], ◌∷◌, ◌++◌, length, if◌then◌else◌}
use Rattle.events.specs.Sound.{IsRightBy, IsTight, cubes_of}
use Rattle.events.specs.Table.{first_rule}
use Rattle.net_types.specs.Answers.{Leaving}
use Rattle.net_types.specs.Cubes.{lies_within_cube}
use Rattle.net_types.specs.Sets.{HasNoRepeats, Member}
use Rattle.net_types.specs.declared.address.PortNo.{PortNo}
use Rattle.net_types.specs.declared.cube.Cube.{Cube}
use Rattle.net_types.specs.declared.headers.Headers.{Headers}
use Rattle.net_types.specs.declared.rule.Rule.{Rule}

-- a cube lies within one of these
abbrev pub is_inside : List Cube → Cube → Bool
is_inside [] cube = false
is_inside (c ∷ cubes) cube = lies_within_cube cube c || is_inside cubes cube

-- the rules whose cubes lie neither within one of the earlier cubes nor within an earlier rule's
abbrev pub sifted : List Cube → List Rule → List Rule
sifted earlier [] = []
sifted earlier (r ∷ rs) = if is_inside earlier r.cube then sifted earlier rs else r ∷ sifted (earlier ++ r.cube ∷ []) rs

-- Some of the old rules, and tight: no rule's cube lies within an earlier one's. The first rule that has headers is the same, and
-- where the cubes differed they still do.
pub record IsTightForm (old rules : List Rule) : Type 0 where
  pub tight : IsTight rules
  pub fewer : length rules ≤ length old
  pub first : (h : Headers) → first_rule rules h ≡ first_rule old h
  pub among : (rule : Rule) → Member rule rules → Member rule old
  pub differ : HasNoRepeats (cubes_of old) → HasNoRepeats (cubes_of rules)

-- a tight form of right rules is right, whatever they are right for
abbrev pub TightFormsStayRight : Type 0
TightFormsStayRight =
    (port : PortNo) (answer : Headers → List Leaving) (atoms : List Cube) (old rules : List Rule) → IsTightForm old rules → IsRightBy port answer atoms old
    → IsRightBy port answer atoms rules
