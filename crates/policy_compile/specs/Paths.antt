-- What the paths of a policy make of the packets of a cube within which each test holds of all headers or of none.
use Rattle.std.specs.Prelude.{◌≡◌, ◌⊎◌, ℕ, Bool, true, false, not, ◌&&◌, ◌||◌, Option, Some, None, List, [], ◌∷◌, ◌++◌, map}
use Rattle.net_types.specs.declared.address.Pid.{Pid}
use Rattle.net_types.specs.declared.cube.Cube.{Cube}
use Rattle.net_types.specs.declared.headers.Headers.{Headers}
use Rattle.net_types.specs.declared.headers.Loc.{Loc}
use Rattle.net_types.specs.declared.headers.Loc.TheVariants.{Stay}
use Rattle.net_types.specs.declared.headers.Assign.{Assign}
use Rattle.net_types.specs.Headers.{apply, arrived, followed_by, no_change}
use Rattle.net_types.specs.Cubes.{has, pull_cube, lies_within_cube}
use Rattle.net_types.specs.Sets.{Member, SameMembers, union_over}
use Rattle.net_types.specs.Policies.{Packet, Pred, Yes, Is, Not, And, Or, Policy, den, mods, atoms, test_cube, plain, one_more}
use Rattle.classifier.specs.Items.{Item}
use Rattle.classifier.specs.Meaning.{carried, cubes_of, Follows}
use Rattle.classifier.specs.declared.line.Line.{Line}

-- ---- tests

-- the cube lies within the one that was found, if any
abbrev pub within_found : Cube → Option Cube → Bool
within_found m None = false
within_found m (Some c) = lies_within_cube m c

-- an assignment takes the cube into the tested one, if any
abbrev pub taken_into : Cube → Assign → Option Cube → Bool
taken_into m set None = false
taken_into m set (Some c) = within_found m (pull_cube c set)

-- for a conjunction of plain tests its one cube decides, and else its parts do
abbrev pub where_plain : Cube → Assign → Option (Option Cube) → Bool → Bool
where_plain m set None parts = parts
where_plain m set (Some found) parts = taken_into m set found

abbrev mutual
  -- the predicate holds in the cube, behind an assignment
  pub pred_at : Cube → Assign → Pred → Bool
  pred_at m set Yes = true
  pred_at m set (Is test span) = taken_into m set (Some (test_cube test))
  pred_at m set (Not p) = not (pred_at m set p)
  pred_at m set (And p q) = where_plain m set (one_more (plain p) q) (part_at m set p && pred_at m set q)
  pred_at m set (Or p q) = pred_at m set p || pred_at m set q

  -- the same, by the parts of a conjunction, each by itself
  pub part_at : Cube → Assign → Pred → Bool
  part_at m set Yes = true
  part_at m set (Is test span) = taken_into m set (Some (test_cube test))
  part_at m set (Not p) = not (pred_at m set p)
  part_at m set (And p q) = part_at m set p && pred_at m set q
  part_at m set (Or p q) = pred_at m set p || pred_at m set q

-- for the headers each of the cubes, behind the assignment, is decided by the one cube
abbrev pub Decided : Cube → Assign → List Cube → Headers → Type 0
Decided m set cubes h = (a : Cube) → Member a cubes → taken_into m set (Some a) ≡ has a (apply set h)

-- ---- policies

-- the assignments of the items
abbrev pub sets_of : List Item → List Assign
sets_of items = map (λ (i : Item). i.0) items

-- to the items were added those that the policy makes behind each of some, in the cube
pub record AreVisits (pid_of : List ℕ → Option Pid) (p : Policy) (m : Cube) (items old new : List Item) : Type 0 where
  pub means : (h : Headers) (l : Loc) → ((i : Item) → Member i items → Decided m i.0 (atoms p) h)
      → SameMembers (map (carried h l) new) (map (carried h l) old ++ union_over (λ (x : Packet). den pid_of p x.0 x.1) (map (carried h l) items))
  pub assigns : (a : Assign) → Member a (sets_of new) → Member a (sets_of old) ⊎ Follows (sets_of items) (mods p) a

-- what is done after an item
abbrev pub after_item : Assign → Loc → Item → Item
after_item set loc i = (followed_by i.0 set, arrived i.1 loc)

-- nothing is done yet
abbrev pub begun : Item
begun = (no_change, Stay)

-- rules of these cubes, each with what the policy makes in its cube
pub record AreAt (pid_of : List ℕ → Option Pid) (p : Policy) (cubes : List Cube) (xs : List Line) : Type 0 where
  pub cubes_are : cubes_of xs ≡ cubes
  pub gives : (x : Line) → Member x xs → AreVisits pid_of p x.cube (begun ∷ []) [] x.results
