-- What is known of receivers before cells are gone over (this exchange's own rule).
use Rattle.std.specs.Prelude.{◌≡◌, ℕ, IsTrue, List, [], ◌∷◌}
use Rattle.cells.specs.Firsts.{firsts}
use Rattle.classifier.specs.Meaning.{cubes_of}
use Rattle.classifier.specs.declared.line.Line.{Line}
use Rattle.net_types.specs.declared.cube.Cube.{Cube}
use Rattle.block_build.specs.Ports.{AllFree, AllTaken, KeepPorts}
use Rattle.block_build.specs.declared.known.Known.{Known}
use Rattle.block_build.specs.declared.receive.Receiver.{Receiver}

-- the places are those of the receiver's rules that hold the cells; if it is apart it leaves by none of the ports; with more ports, by
-- which it leaves too, those of the others stay
pub record IsKnown (cells : List Cube) (ports : List ℕ) (k : Known) (r : Receiver) (more : List ℕ) : Type 0 where
  pub places : k.places.value.items ≡ firsts (cubes_of r.lines) cells
  pub free : IsTrue k.apart → AllFree ports r.lines
  pub taken : AllTaken more r.lines
  pub kept : KeepPorts ports more

-- the same of each receiver: others leave by these ports before the first of them, and with all of them by those
abbrev pub AreKnown : List Cube → List ℕ → List Known → List Receiver → List ℕ → Type 0
AreKnown cells ports [] [] all = ports ≡ all
AreKnown cells ports (k ∷ ks) (r ∷ rs) all = (more : List ℕ) × IsKnown cells ports k r more × AreKnown cells more ks rs all
AreKnown cells ports [] (r ∷ rs) all = ⊥
AreKnown cells ports (k ∷ ks) [] all = ⊥

-- the same beside rules of cells, with some ports by which these leave
abbrev pub AreKnownBeside : List Cube → List Line → List Known → List Receiver → Type 0
AreKnownBeside cells zs ks rs = (ports : List ℕ) × (all : List ℕ) × AllTaken ports zs × AreKnown cells ports ks rs all
