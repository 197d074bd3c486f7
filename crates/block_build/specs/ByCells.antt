-- The rules of cells: what the sender's rule that holds a cell gives, and what the receivers make of that (this exchange's own rule).
use Rattle.std.specs.Prelude.{ℕ, List, [], ◌∷◌, map, take, if◌then◌else◌}
use Rattle.std.specs.Option.{option_map_or}
use Rattle.classifier.specs.Items.{Item, add_all}
use Rattle.classifier.specs.Lines.{line}
use Rattle.classifier.specs.declared.line.Line.{Line}
use Rattle.cells.specs.Cells.{IsClosed}
use Rattle.net_types.specs.Meets.{IsMeet}
use Rattle.net_types.specs.Sets.{Member}
use Rattle.net_types.specs.declared.address.Pid.{Pid}
use Rattle.net_types.specs.declared.cube.Cube.{Cube}
use Rattle.net_types.specs.declared.route.Offer.{Offer}
use Rattle.block_build.specs.Bounds.{AreMeets, AreTheirMeets}
use Rattle.block_build.specs.Closed.{first_holding}
use Rattle.block_build.specs.Offers.{goes_to, has_one_left}
use Rattle.block_build.specs.declared.receive.Receiver.{Receiver}

-- what the first rule that holds a cube gives
abbrev pub held_by : Cube → List Line → List Item
held_by c ys = option_map_or (λ (y : Line). y.results) (first_holding c ys) []

-- the rule of a cell beside what a receiver makes in it, where the sender's rule that holds it sends there
abbrev pub beside_at : Pid → List Offer → List Line → Receiver → Line → Line
beside_at best offers xs r z =
    line (if goes_to (has_one_left offers (held_by z.cube xs)) best (held_by z.cube xs) r.who then add_all z.results (held_by z.cube r.lines) else z.results) z.cube

-- the rule of a cell beside what each receiver makes in it
abbrev pub beside_them : Pid → List Offer → List Line → List Receiver → Line → Line
beside_them best offers xs [] z = z
beside_them best offers xs (r ∷ rs) z = beside_them best offers xs rs (beside_at best offers xs r z)

-- the rules of cells beside what each receiver makes
abbrev pub beside_all : Pid → List Offer → List Line → List Line → List Receiver → List Line
beside_all best offers xs zs [] = zs
beside_all best offers xs zs (r ∷ rs) = beside_all best offers xs (map (beside_at best offers xs r) zs) rs

-- cells as rules that give nothing
abbrev pub dropping : List Cube → List Line
dropping cubes = map (line []) cubes

-- what a receiver makes in a cell, where the sender's rule that holds it sends there
abbrev pub made_at : Pid → List Offer → List Line → Receiver → Cube → List Item
made_at best offers xs r c = if goes_to (has_one_left offers (held_by c xs)) best (held_by c xs) r.who then held_by c r.lines else []

-- the rules of cells beside what each of the first so many receivers makes
abbrev pub beside_first : Pid → List Offer → List Line → List Cube → List Receiver → ℕ → List Line
beside_first best offers xs cubes rs n = beside_all best offers xs (dropping cubes) (take n rs)

-- the cubes of the rules are among these
abbrev pub HasCubes : List Cube → List Line → Type 0
HasCubes cubes xs = (x : Line) → Member x xs → Member x.cube cubes

-- the cubes of the sender's and of each receiver's rules are among these
pub record HasBoth (rs : List Receiver) (xs : List Line) (cubes : List Cube) : Type 0 where
  pub own : HasCubes cubes xs
  pub theirs : (r : Receiver) → Member r rs → HasCubes cubes r.lines

-- each cube is a meet where those of the receivers' and of the sender's rules are
abbrev pub AreTheirs : List Receiver → List Line → List Cube → Type 0
AreTheirs rs xs cubes = (atoms : List Cube) → AreTheirMeets atoms rs → AreMeets atoms xs → (c : Cube) → Member c cubes → IsMeet atoms c

-- cubes by which rules can be built: they are closed, none is missing, and none is of others
pub record AreCellsFor (rs : List Receiver) (xs : List Line) (cubes : List Cube) : Type 0 where
  pub closed : IsClosed cubes
  pub has : HasBoth rs xs cubes
  pub theirs : AreTheirs rs xs cubes
