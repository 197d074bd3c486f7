-- Lists of rules that may have stopped at a limit.
use Rattle.std.specs.Prelude.{◌≡◌, ℕ, ◌≤◌, Bool, true, false, Option, Some, None, List, [], ◌∷◌, ◌++◌, length, take, if◌then◌else◌}
use Rattle.classifier.specs.Items.{Item}
use Rattle.classifier.specs.Lines.{add_lines, is_shadowed, line, product}
use Rattle.classifier.specs.Meaning.{HasDistinctCubes, decide}
use Rattle.classifier.specs.declared.join.Join.TheVariants.{Union}
use Rattle.classifier.specs.declared.line.Line.{Line}
use Rattle.net_types.specs.Meets.{IsMeet}
use Rattle.net_types.specs.Sets.{Member}
use Rattle.net_types.specs.declared.address.Pid.{Pid}
use Rattle.net_types.specs.declared.cube.Cube.{Cube}
use Rattle.net_types.specs.declared.headers.Headers.{Headers}
use Rattle.net_types.specs.declared.route.Offer.{Offer}
use Rattle.block_build.specs.Gathered.{AreTotal, gathered_by}
use Rattle.block_build.specs.Offers.{goes_to}
use Rattle.block_build.specs.Spreads.{beside, spread}
use Rattle.block_build.specs.declared.receive.Receiver.{Receiver}

-- each cube is a meet of the atoms
abbrev pub AreMeets : List Cube → List Line → Type 0
AreMeets atoms xs = (z : Line) → Member z xs → IsMeet atoms z.cube

-- so are the cubes of each receiver's rules
abbrev pub AreTheirMeets : List Cube → List Receiver → Type 0
AreTheirMeets atoms rs = (r : Receiver) → Member r rs → AreMeets atoms r.lines

-- The whole list, where it is within the limit. In any case its cubes differ, and they are meets where those of the
-- receivers' and of the sender's rules are.
pub record IsSome (limit : ℕ) (whole : List Line) (rs : List Receiver) (xs made : List Line) : Type 0 where
  pub whole_within : length made ≤ limit → made ≡ whole
  pub differ : HasDistinctCubes made
  pub meets : (atoms : List Cube) → AreTheirMeets atoms rs → AreMeets atoms xs → AreMeets atoms made

-- Rules for each of the sender's: where they are within the limit, they decide by these and what the receivers' give. In any
-- case their cubes differ, and are meets where those of the receivers' and of the sender's rules are.
pub record IsBuilt (limit : ℕ) (best : Pid) (offers : List Offer) (rs : List Receiver) (xs made : List Line) : Type 0 where
  pub gives : length made ≤ limit → AreTotal rs → (h : Headers) (items : List Item) → decide xs h ≡ Some items → decide made h ≡ Some (gathered_by best offers rs h items)
  pub differ : HasDistinctCubes made
  pub meets : (atoms : List Cube) → AreTheirMeets atoms rs → AreMeets atoms xs → AreMeets atoms made

-- The rules beside those of one more receiver, where they go to it and are within the limit. In any case the cubes differ
-- where they did before, and are meets where those of both are.
pub record IsSomeBeside (limit : ℕ) (goes : Bool) (xs ys made : List Line) : Type 0 where
  pub whole_within : length made ≤ limit → made ≡ (if goes then beside xs ys else xs)
  pub differ : HasDistinctCubes xs → HasDistinctCubes made
  pub meets : (atoms : List Cube) → AreMeets atoms xs → AreMeets atoms ys → AreMeets atoms made

-- Some rules with the product of the first of others with a third list: of all of these, where they are within the limit.
pub record IsAdded (limit : ℕ) (old xs ys new : List Line) : Type 0 where
  pub taken : ℕ
  pub is : new ≡ add_lines old (product Union (take taken xs) ys)
  pub whole_within : length new ≤ limit → new ≡ add_lines old (product Union xs ys)

-- Some rules with others, where they are within the limit. In any case the cubes differ where they did before, and are meets
-- where those of the rules before, of the receivers' and of the sender's rules are.
pub record IsGrown (limit : ℕ) (old more : List Line) (rs : List Receiver) (xs new : List Line) : Type 0 where
  pub whole_within : length new ≤ limit → new ≡ add_lines old more
  pub differ : HasDistinctCubes old → HasDistinctCubes new
  pub meets : (atoms : List Cube) → AreTheirMeets atoms rs → AreMeets atoms xs → AreMeets atoms old → AreMeets atoms new

-- whether there is a last receiver to which some items don't send
abbrev pub IsEnd : Bool → Pid → List Item → List Receiver → Bool → Type 0
IsEnd left best items rs true = (others : List Receiver) × (r : Receiver) × (rs ≡ others ++ r ∷ []) × (goes_to left best items r.who ≡ false)
IsEnd left best items rs false = (others : List Receiver) (r : Receiver) → rs ≡ others ++ r ∷ [] → goes_to left best items r.who ≡ true

-- The receivers up to the last one that some items send to.
pub record IsReached (left : Bool) (best : Pid) (items : List Item) (rs front : List Receiver) : Type 0 where
  pub all : (xs : List Line) → spread left best items xs front ≡ spread left best items xs rs
  pub theirs : (r : Receiver) → Member r front → Member r rs
  pub last : (others : List Receiver) (r : Receiver) → front ≡ others ++ r ∷ [] → goes_to left best items r.who ≡ true

-- behind the rules one with this cube is never the first with its headers, where there is a cube
abbrev pub IsPast : Option Cube → List Line → Type 0
IsPast None xs = Unit {0}
IsPast (Some c) xs = is_shadowed xs (line [] c) ≡ true
