-- The fields so far.
use Rattle.std.proofs.Common.{◌≡◌, unwrap_or}
use Rattle.cells.specs.Blocks.{KeepsInner}
use Rattle.cells.proofs.inside.Inside.among.Given as goal

abbrev pub invariant-loop-outer : goal.invariant-loop-outer
invariant-loop-outer l = KeepsInner l.fn.self.cells.now l.cube l.blocks (unwrap_or l.narrow l.blocks) × (l.self.cells.now ≡ l.fn.self.cells.now)
